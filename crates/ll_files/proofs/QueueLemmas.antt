-- How many bytes wait, as chunks come and go.
use Rattle.std.proofs.Common.{◌≡◌, ◌+◌, List, [], ◌∷◌, ◌++◌, length}
use Rattle.std.proofs.lemmas.List.Sums.{sum_by_push, sum_by-cons}
use Rattle.ll_record.specs.Taken.{TakenChunk}
use Rattle.ll_files.specs.Queue.{bytes_of}

pub bytes_added : (chunks : List TakenChunk) (more : TakenChunk) → bytes_of (chunks ++ more ∷ []) ≡ bytes_of chunks + length more.chunk.text
bytes_added chunks more = sum_by_push (λ taken. length taken.chunk.text) chunks more

pub bytes_first : (first : TakenChunk) (rest : List TakenChunk) → bytes_of (first ∷ rest) ≡ length first.chunk.text + bytes_of rest
bytes_first first rest = sum_by-cons (λ taken. length taken.chunk.text) first rest
