-- For the contracts inside: what a host in memory tells of a call.
use Rattle.std.specs.Prelude.{option_map, map, string_bytes}
use Rattle.zen_host.specs.HostCalls.{HostCall, OpensDisk, OpensLink, Spawns, WaitsFor, Kills, told_settings, told_end}
use Rattle.zen_host.specs.declared.mem_host.Asked.{Asked}
use Rattle.zen_host.specs.declared.mem_host.Asked.TheVariants.{OpenDisk, OpenLink, Spawn, Wait, Kill}

abbrev pub call_of : Asked → HostCall
call_of (OpenDisk dir refused) = OpensDisk (string_bytes dir) refused
call_of (OpenLink settings refused) = OpensLink (told_settings settings) refused
call_of (Spawn program words refused) = Spawns (string_bytes program) (map string_bytes words.items) refused
call_of (Wait child ended) = WaitsFor child (option_map told_end ended)
call_of (Kill child refused) = Kills child refused
