-- Digits that spell bytes were found before anything is allocated.
use Rattle.ll_script.specs.Hex.{bytes_in_hex}
use Rattle.ll_script.proofs.ReadingLemmas.{bytes_by-some}
use Rattle.ll_script.proofs.reading.read_piece.Goals as goal

pub returns-in-Err : goal.returns-in-Err
returns-in-Err c = λ channels. rw c.in-Some.ensures.1 (bytes_by-some c.in-Some.number (bytes_in_hex c.in-Some.hex.now) c.in-Some.ensures.0)
