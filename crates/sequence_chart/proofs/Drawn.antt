-- What stands in a picture after all its parts are written.
use Rattle.std.proofs.Common.{◌≡◌, ℕ, ◌+◌, Bool, List, [], ◌++◌, ap, ◌∙◌}
use Rattle.std.specs.List.{flat_map}
use Rattle.trace_reader.specs.declared.said.TraceLine.{TraceLine}
use Rattle.sequence_chart.specs.declared.columns.Column.{Column}
use Rattle.sequence_chart.specs.declared.messages.Origin.{Origin}
use Rattle.sequence_chart.specs.Rows.{first_cursor, walk, y_of}
use Rattle.sequence_chart.specs.Messages.{handed_from, origins_of}
use Rattle.sequence_chart.specs.Elements.{arrow_in, label_in, event_row_in}
use Rattle.sequence_chart.specs.Frame.{frame, last}
use Rattle.sequence_chart.specs.Lifelines.{head, lifeline}
use Rattle.sequence_chart.specs.Chart.{Draws, columns_of, drawing, last_row, lost_in}
use Rattle.sequence_chart.proofs.Turns.{then_written}

-- the parts, as they are written one after the other
pub joined : (frame t1 t2 t3 t4 t5 t6 t7 new a b c d e f g end : List ℕ)
    → t1 ≡ frame ++ a → t2 ≡ t1 ++ b → t3 ≡ t2 ++ c → t4 ≡ t3 ++ d → t5 ≡ t4 ++ e → t6 ≡ t5 ++ f → t7 ≡ t6 ++ g → new ≡ t7 ++ end
    → new ≡ frame ++ ((a ++ (b ++ (c ++ (d ++ (e ++ (f ++ g)))))) ++ end)
joined frame t1 t2 t3 t4 t5 t6 t7 new a b c d e f g end h1 h2 h3 h4 h5 h6 h7 h8 =
    let from5 : t7 ≡ t5 ++ (f ++ g) = then_written t5 t6 t7 f g h6 h7 in
    let from4 : t7 ≡ t4 ++ (e ++ (f ++ g)) = then_written t4 t5 t7 e (f ++ g) h5 from5 in
    let from3 : t7 ≡ t3 ++ (d ++ (e ++ (f ++ g))) = then_written t3 t4 t7 d (e ++ (f ++ g)) h4 from4 in
    let from2 : t7 ≡ t2 ++ (c ++ (d ++ (e ++ (f ++ g)))) = then_written t2 t3 t7 c (d ++ (e ++ (f ++ g))) h3 from3 in
    let from1 : t7 ≡ t1 ++ (b ++ (c ++ (d ++ (e ++ (f ++ g))))) = then_written t1 t2 t7 b (c ++ (d ++ (e ++ (f ++ g)))) h2 from2 in
    let all : t7 ≡ frame ++ (a ++ (b ++ (c ++ (d ++ (e ++ (f ++ g)))))) = then_written frame t1 t7 a (b ++ (c ++ (d ++ (e ++ (f ++ g))))) h1 from1 in
    then_written frame t7 new (a ++ (b ++ (c ++ (d ++ (e ++ (f ++ g)))))) end all h8

-- what is drawn of these lines, with these columns and messages
abbrev parts : List Column → (sent shown : List Origin) → List Bool → (bottom below : ℕ) → List TraceLine → List ℕ
parts columns sent shown handed bottom below lines =
    walk (event_row_in sent) first_cursor lines
    ++ (flat_map (lifeline lines bottom) columns
    ++ (walk (arrow_in columns shown) first_cursor lines
    ++ (walk (lost_in columns handed) first_cursor lines
    ++ (walk (label_in columns) first_cursor lines
    ++ (flat_map (head 28) columns ++ flat_map (head below) columns)))))

parts_are : (left : ℕ) (columns : List Column) (sent shown : List Origin) (handed : List Bool) (bottom below : ℕ) (lines : List TraceLine)
    → columns ≡ columns_of left lines → sent ≡ origins_of lines → shown ≡ origins_of lines → handed ≡ handed_from [] lines
    → bottom ≡ last_row first_cursor lines + 1 → below ≡ y_of bottom + 14
    → parts columns sent shown handed bottom below lines ≡ drawing left lines
parts_are left columns sent shown handed bottom below lines column send show hand low under =
    let cs = columns_of left lines in
    let os = origins_of lines in
    let hs = handed_from [] lines in
    let deep = last_row first_cursor lines + 1 in
    ap (λ (x : List Column). parts x sent shown handed bottom below lines) column
    ∙ ap (λ (x : List Origin). parts cs x shown handed bottom below lines) send
    ∙ ap (λ (x : List Origin). parts cs os x handed bottom below lines) show
    ∙ ap (λ (x : List Bool). parts cs os os x bottom below lines) hand
    ∙ ap (λ (x : ℕ). parts cs os os hs bottom x lines) under
    ∙ ap (λ (x : ℕ). parts cs os os hs x (y_of x + 14) lines) low

pub drawn : (left : ℕ) (columns : List Column) (sent shown : List Origin) (handed : List Bool) (bottom below : ℕ) (lines : List TraceLine)
    (width height : ℕ) (old begun t1 t2 t3 t4 t5 t6 t7 new : List ℕ)
    → columns ≡ columns_of left lines → sent ≡ origins_of lines → shown ≡ origins_of lines → handed ≡ handed_from [] lines
    → bottom ≡ last_row first_cursor lines + 1 → below ≡ y_of bottom + 14
    → old ≡ [] → begun ≡ old ++ frame width height
    → t1 ≡ begun ++ walk (event_row_in sent) first_cursor lines
    → t2 ≡ t1 ++ flat_map (lifeline lines bottom) columns
    → t3 ≡ t2 ++ walk (arrow_in columns shown) first_cursor lines
    → t4 ≡ t3 ++ walk (lost_in columns handed) first_cursor lines
    → t5 ≡ t4 ++ walk (label_in columns) first_cursor lines
    → t6 ≡ t5 ++ flat_map (head 28) columns
    → t7 ≡ t6 ++ flat_map (head below) columns
    → new ≡ t7 ++ last
    → Draws lines new
drawn left columns sent shown handed bottom below lines width height old begun t1 t2 t3 t4 t5 t6 t7 new column send show hand low under empty framed h1 h2 h3 h4 h5 h6 h7 h8 = record {
  left = left;
  width = width;
  height = height;
  is =
      joined begun t1 t2 t3 t4 t5 t6 t7 new
      (walk (event_row_in sent) first_cursor lines) (flat_map (lifeline lines bottom) columns) (walk (arrow_in columns shown) first_cursor lines)
      (walk (lost_in columns handed) first_cursor lines) (walk (label_in columns) first_cursor lines) (flat_map (head 28) columns) (flat_map (head below) columns)
      last h1 h2 h3 h4 h5 h6 h7 h8
      ∙ ap (λ (t : List ℕ). begun ++ (t ++ last)) (parts_are left columns sent shown handed bottom below lines column send show hand low under)
      ∙ ap (λ (t : List ℕ). t ++ (drawing left lines ++ last)) (framed ∙ ap (λ (t : List ℕ). t ++ frame width height) empty);
}
