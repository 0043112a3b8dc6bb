-- A line is the last one, or has an entry; what is wrong with the entry is wrong with the line.
use Rattle.std.proofs.Common.{◌∷◌, refl}
use Rattle.ll_attr.specs.Words.{pieces_at}
use Rattle.ll_check.proofs.ReplyLemmas.{brought-is, last-is}
use Rattle.ll_check.proofs.StepLemmas.{entry-wrong}
use Rattle.ll_check.specs.Lines.{IsText}
use Rattle.ll_check.proofs.replies.reply_in.Goals as goal

pub returns-in_default-clause-right : goal.returns-in_default-clause-right
returns-in_default-clause-right c ch rest of = record {
  last = last-is c.args.line.now (pieces_at 10 rest) (rw c.in_default.is at (c.in_ok-text.ensures.right (pieces_at 10 rest)));
  same = refl;
}

pub returns-in-Ok-clause-right : goal.returns-in-Ok-clause-right
returns-in-Ok-clause-right c ch rest of =
    let lines = pieces_at 10 rest in
    let is : IsText c.in-Some.text.now (c.args.line.now ∷ lines) lines = rw c.in-Some.is at (c.in_ok-text.ensures.right lines) in
    brought-is ch c.args.line.now c.in-Some.text.now c.in_ok-line.line rest c.in-Ok.reply is c.in_ok-line.ensures (c.in-Ok.ensures.right ch of)

pub returns-in-Err-clause-wrong : goal.returns-in-Err-clause-wrong
returns-in-Err-clause-wrong c ch rest of other =
    let lines = pieces_at 10 rest in
    let is : IsText c.in-Some.text.now (c.args.line.now ∷ lines) lines = rw c.in-Some.is at (c.in_ok-text.ensures.right lines) in
    entry-wrong ch c.in-Some.text.now (c.args.line.now ∷ lines) rest c.in-Err.kind is (c.in-Err.ensures.wrong ch of other)
