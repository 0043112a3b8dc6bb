-- For private contracts. Chunks that wait to be written.
use Rattle.std.specs.Prelude.{ℕ, List, length}
use Rattle.std.specs.List.{sum_by}
use Rattle.ll_record.specs.Taken.{TakenChunk}

-- how many bytes these chunks have
abbrev pub bytes_of : List TakenChunk → ℕ
bytes_of chunks = sum_by (λ taken. length taken.chunk.text) chunks
