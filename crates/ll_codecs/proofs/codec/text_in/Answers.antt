-- Bytes are text exactly if they are UTF-8.
use Rattle.ll_codecs.proofs.TextLemmas.{text-is, text-none}
use Rattle.ll_codecs.proofs.codec.text_in.Goals as goal

pub returns-in-Ok : goal.returns-in-Ok
returns-in-Ok c = text-is c.args.bytes.now c.in-Ok.text.now c.in-Ok.ensures.cases.0 c.in-Ok.ensures.cases.1

pub returns-in-Err : goal.returns-in-Err
returns-in-Err c = text-none c.args.bytes.now c.in-Err.ensures.cases.0
