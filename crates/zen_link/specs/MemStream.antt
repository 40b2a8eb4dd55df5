-- For the contracts inside: which calls of a source and a sink in memory fail.
use Rattle.std.specs.Prelude.{◌≡◌, ◌⊎◌, ℕ, ◌+◌, ◌<◌, min, vec_len, vec_capacity, length, List, true, false, not, Result, IfOk, is_ok}
use Rattle.zen_disk.specs.Numbered.{next_number, is_listed}
use Rattle.zen_link.specs.declared.stream.Failed.{Failed}
use Rattle.zen_link.specs.declared.mem_stream.MemSource.{MemSource}
use Rattle.zen_link.specs.declared.mem_stream.MemSink.{MemSink}

-- A read fails exactly where its number is listed. Only a read that fails counts a fault.
pub record MemReads (old new : MemSource) (result : Result ℕ Failed) : Type 0 where
  pub number : new.calls ≡ next_number old.calls
  pub fails : new.fails ≡ old.fails
  pub answer : is_ok result ≡ not (is_listed old.fails.items new.calls)
  pub faults : is_ok result ≡ true → new.faults ≡ old.faults

-- A write whose number is listed fails. Another takes as many bytes as there are and as the sink takes, and fails only
-- where they do not fit in the room that there is. Only a write that fails counts a fault.
pub record MemWrites (old : MemSink) (bytes : List ℕ) (new : MemSink) (result : Result ℕ Failed) : Type 0 where
  pub number : new.calls ≡ next_number old.calls
  pub fails : new.fails ≡ old.fails
  pub most : new.most ≡ old.most
  pub listed : is_listed old.fails.items new.calls ≡ true → is_ok result ≡ false
  pub count : IfOk result (λ count. count ≡ min (length bytes) old.most)
  pub refused : is_ok result ≡ false
      → (is_listed old.fails.items new.calls ≡ true) ⊎ (vec_capacity old.bytes < vec_len old.bytes + min (length bytes) old.most)
  pub faults : is_ok result ≡ true → new.faults ≡ old.faults
