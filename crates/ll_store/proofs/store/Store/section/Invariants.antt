-- None of the sections so far has this number.
use Rattle.std.proofs.Common.{◌≡◌, ◌==◌, drop, find}
use Rattle.ll_store.specs.declared.segment.Section.{Section}
use Rattle.ll_store.proofs.store.Store.section.Given as goal

abbrev pub invariant-loop-section : goal.invariant-loop-section
invariant-loop-section l =
    find (λ (s : Section). s.number == l.number) (drop l.section-index l.self.kept.sections) ≡ find (λ (s : Section). s.number == l.number) l.self.kept.sections
