-- The law has a file of its own.
use Rattle.ll_script_laws.proofs.PieceLemmas.{pieces_same}
use Rattle.ll_script_laws.proofs.pieces_law.Goals as goal

pub returns : goal.returns
returns c before later whole first second n a b is_whole is_first is_second fits fits_first fits_second =
    pieces_same n a b first second whole is_first is_second is_whole fits_first fits_second fits before later
