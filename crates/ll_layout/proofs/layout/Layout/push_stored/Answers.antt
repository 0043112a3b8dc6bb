-- All three lists are appended.
use Rattle.std.proofs.Common.{rules, ◌≡◌, ◌++◌, append_assoc, ap, sym, ◌∙◌, map}
use Rattle.ll_layout.specs.declared.stored.KeptPart.{KeptPart}
use Rattle.ll_layout.specs.declared.stored.StoredSection.{StoredSection}
use Rattle.ll_layout.proofs.layout.Layout.push_stored.Goals as goal

pub returns : goal.returns
returns c =
    let out = c.args.out.now.items in
    let older = map (λ (p : KeptPart). p.stored) c.args.self.now.older in
    let newer = map (λ (p : KeptPart). p.stored) c.args.self.now.newer in
    let sections = map (λ (s : StoredSection). s.stored) c.args.self.now.sections in
    let one : c.push_parts.new.out.items ≡ out ++ older = search rules in
    let two : c.push_parts-2.new.out.items ≡ c.push_parts.new.out.items ++ newer = search rules in
    let three : c.push_sections.new.out.items ≡ c.push_parts-2.new.out.items ++ sections = search rules in
    three ∙ ap (λ xs. xs ++ sections) (two ∙ ap (λ xs. xs ++ newer) one ∙ append_assoc out older newer) ∙ append_assoc out (older ++ newer) sections
