-- What some inputs make.
use Rattle.std.proofs.Common.{◌≡◌, [], ◌∷◌, refl}
use Rattle.wire_frames.specs.declared.fault.FrameError.TheVariants.{TooLong}
use Rattle.wire_frames.specs.Streams.{stream}
use Rattle.policy_model.specs.declared.events.Event.TheVariants.{Tick as TickCame, Client as LineCame}
use Rattle.zen_link.specs.declared.link.Input.TheVariants.{Bytes, Closed, Tick, Stop}
use Rattle.node_loop.specs.Intakes.{Read, Unread, Refused, NoIntakes}
use Rattle.node_loop.specs.Happenings.{Happening, Comes, Faulty, Ends, Takes, Makes}
use Rattle.node_loop.specs.Happenings as happening
use Rattle.node_loop.specs.Connections.{course_from}

-- a line in two pieces, with a tick between
line_in_pieces : course_from NoIntakes (Read (Bytes 3 (120 ∷ [])) ∷ Read (Tick 5 7) ∷ Read (Bytes 3 (121 ∷ 10 ∷ 122 ∷ [])) ∷ [])
    ≡ Takes (Bytes 3 (120 ∷ [])) ∷ Takes (Tick 5 7) ∷ Makes (Comes (TickCame 5 7)) ∷ Takes (Bytes 3 (121 ∷ 10 ∷ 122 ∷ [])) ∷ Makes (Comes (LineCame 3 (120 ∷ 121 ∷ []))) ∷ []
line_in_pieces = refl

-- bytes that find no memory take those before them with them
lost_bytes : course_from NoIntakes (Read (Bytes 3 (120 ∷ [])) ∷ Unread 3 (121 ∷ []) ∷ Read (Bytes 3 (122 ∷ 10 ∷ [])) ∷ Refused ∷ Read Stop ∷ [])
    ≡ Takes (Bytes 3 (120 ∷ [])) ∷ Takes (Bytes 3 (121 ∷ [])) ∷ Makes (happening.Unread 3) ∷ Takes (Bytes 3 (122 ∷ 10 ∷ [])) ∷ Makes (Comes (LineCame 3 (122 ∷ [])))
    ∷ Makes happening.Refused ∷ Takes Stop ∷ []
lost_bytes = refl

-- too long a length: the connection is dropped, and begins anew
too_long : course_from NoIntakes (Read (Bytes 3 (0 ∷ 128 ∷ [])) ∷ Read (Bytes 3 (0 ∷ 1 ∷ 9 ∷ [])) ∷ Read (Bytes 3 (120 ∷ 10 ∷ [])) ∷ [])
    ≡ Takes (Bytes 3 (0 ∷ 128 ∷ [])) ∷ Takes (Bytes 3 (0 ∷ 1 ∷ 9 ∷ [])) ∷ Makes (Faulty 3 TooLong) ∷ Takes (Bytes 3 (120 ∷ 10 ∷ [])) ∷ Makes (Comes (LineCame 3 (120 ∷ []))) ∷ []
unfolding stream
too_long = refl

-- an unfinished frame, and then another connection of that number
unfinished : course_from NoIntakes (Read (Bytes 3 (0 ∷ 0 ∷ 0 ∷ [])) ∷ Read (Closed 3) ∷ Read (Bytes 3 (120 ∷ 10 ∷ [])) ∷ Read (Bytes 4 (121 ∷ 10 ∷ [])) ∷ [])
    ≡ Takes (Bytes 3 (0 ∷ 0 ∷ 0 ∷ [])) ∷ Takes (Closed 3) ∷ Makes (Ends 3) ∷ Takes (Bytes 3 (120 ∷ 10 ∷ [])) ∷ Makes (Comes (LineCame 3 (120 ∷ [])))
    ∷ Takes (Bytes 4 (121 ∷ 10 ∷ [])) ∷ Makes (Comes (LineCame 4 (121 ∷ []))) ∷ []
unfolding stream
unfinished = refl
