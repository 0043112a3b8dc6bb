-- Zeros of the same number are refused as the bytes are.
use Rattle.std.proofs.Common.{Some, Ok, [], ◌∷◌, sym, subst}
use Rattle.ll_item.specs.Items.{item_in}
use Rattle.ll_script.specs.Lines.{item_act}
use Rattle.ll_script.specs.Reads.{IsRead}
use Rattle.ll_script.specs.declared.act.Act.TheVariants.{Refuse}
use Rattle.ll_script.specs.declared.act.Acts.TheVariants as list
use Rattle.ll_script.proofs.AnnouncedLemmas.{unkept-err, unkept-ok}
use Rattle.ll_script.proofs.reading.refuse_unkept.Goals as goal

pub returns-in-Some : goal.returns-in-Some
returns-in-Some c = λ channels place media e.
    subst (λ r. IsRead channels (Some (item_act place (item_in c.args.settings.now c.args.line.now media) ∷ [])) (Ok (list.One (Refuse r)))) (sym c.from.ensures)
    (unkept-err channels place c.args.settings.now c.args.line.now media c.args.blank.now c.read.result c.in-Some.fault e c.read.ensures.refused
    c.read.ensures.memory c.in-Some.ensures.value)

pub returns-in-None : goal.returns-in-None
returns-in-None c = λ channels place media e.
    unkept-ok channels place c.args.settings.now c.args.line.now media c.args.blank.now c.read.result e c.read.ensures.value c.in-None.ensures.value
