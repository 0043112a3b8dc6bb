-- How a device was read, read by read.
use Rattle.std.proofs.Common.{◌≡◌, ℕ, ◌+◌, List, [], ◌++◌, Option, None, Some, append_assoc, append-nil, refl, ap, sym, ◌∙◌, arith}
use Rattle.std.specs.Io.KnownBytes.{append_known}
use Rattle.ll_device.specs.Inward.{Inward, Looks, looked, looked_at}

abbrev told : ℕ → ℕ → Option Looks
told reads ends = Some (record { reads = reads; ends = ends })

told-same : (a b c d : ℕ) → a ≡ c → b ≡ d → told a b ≡ told c d
told-same a b c d p q = ap (λ n. told n b) p ∙ ap (λ n. told c n) q

looked-none : (before : Option Looks) → before ≡ looked 0 0 before
looked-none None = refl
looked-none (Some i) = told-same i.reads i.ends (i.reads + 0) (i.ends + 0) (omega arith) (omega arith)

looked-twice : (reads ends more later : ℕ) (before : Option Looks) → looked more later (looked reads ends before) ≡ looked (reads + more) (ends + later) before
looked-twice reads ends more later None = refl
looked-twice reads ends more later (Some i) =
    told-same (i.reads + reads + more) (i.ends + ends + later) (i.reads + (reads + more)) (i.ends + (ends + later)) (omega arith) (omega arith)

came-none : (before : Option (List ℕ)) → before ≡ append_known before []
came-none None = refl
came-none (Some bytes) = ap Some (sym (append-nil bytes))

came-twice : (came more : List ℕ) (before : Option (List ℕ)) → append_known (append_known before came) more ≡ append_known before (came ++ more)
came-twice came more None = refl
came-twice came more (Some bytes) = ap Some (append_assoc bytes came more)

inward-same : (a b : Option Looks) (c d : Option (List ℕ)) → a ≡ b → c ≡ d → (let i : Inward = record { looks = a; bytes = c } in i) ≡ record { looks = b; bytes = d }
inward-same a b c d p q = ap (λ looks. let i : Inward = record { looks = looks; bytes = c } in i) p ∙ ap (λ bytes. let i : Inward = record { looks = b; bytes = bytes } in i) q

-- it was not read
pub looked_at-none : (before : Inward) → before ≡ looked_at 0 0 [] before
looked_at-none before = inward-same before.looks (looked 0 0 before.looks) before.bytes (append_known before.bytes []) (looked-none before.looks) (came-none before.bytes)

-- some reads, and then some more, are all of them together
pub looked_at-twice : (reads ends more later : ℕ) (came more_came : List ℕ) (before : Inward)
    → looked_at more later more_came (looked_at reads ends came before) ≡ looked_at (reads + more) (ends + later) (came ++ more_came) before
looked_at-twice reads ends more later came more_came before =
    inward-same (looked more later (looked reads ends before.looks)) (looked (reads + more) (ends + later) before.looks)
    (append_known (append_known before.bytes came) more_came) (append_known before.bytes (came ++ more_came))
    (looked-twice reads ends more later before.looks) (came-twice came more_came before.bytes)

pub looked_at-on : (before mid after : Inward) (reads ends more later : ℕ) (came more_came : List ℕ)
    → mid ≡ looked_at reads ends came before → after ≡ looked_at more later more_came mid → after ≡ looked_at (reads + more) (ends + later) (came ++ more_came) before
looked_at-on before mid after reads ends more later came more_came p q =
    q ∙ ap (looked_at more later more_came) p ∙ looked_at-twice reads ends more later came more_came before
