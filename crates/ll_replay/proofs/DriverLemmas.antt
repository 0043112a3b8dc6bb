-- What a driver keeps and writes after a step of a script, and after several.
use Rattle.std.proofs.Common.{◌≡◌, ℕ, zero, suc, ◌-◌, ◌≤◌, List, [], ◌∷◌, ◌++◌, Option, None, refl, ap, sym, ◌∙◌, subst, append_assoc, append-nil, arith, fold, length}
use Rattle.std.proofs.lemmas.List.Sums.{fold-append}
use Rattle.std.specs.declared.alloc.Global.{Global}
use Rattle.std.specs.declared.vec.Vec.{Vec}
use Rattle.std.specs.Io.KnownBytes.{Appends}
use Rattle.std.proofs.KnownBytes.{Appends-trans}
use Rattle.ll_connection.specs.Visit.{Luck}
use Rattle.ll_replay.specs.Cuts.{IsCutBetween}
use Rattle.ll_replay.specs.Kept.{Kept, Says, Stands, told}
use Rattle.ll_device.specs.Written.{AppendsPrefix}
use Rattle.ll_replay.specs.Stream.{StopsBetween}
use Rattle.ll_replay.specs.Script.{Script, rest_at, so_many, next_reply}
use Rattle.ll_replay.specs.declared.outcome.RunFault.{RunFault}
use Rattle.ll_replay.specs.declared.outcome.RunFault.TheVariants as fault
use Rattle.ll_replay.proofs.ScriptLaws.{Follows}
use Rattle.ll_device.proofs.WriteLemmas.{AppendsPrefix-after, AppendsPrefix-longer}

-- a step whose answer was written
pub said : (new old : Kept) (base mid after : Option (List ℕ)) (w v : Script) (answer : Option (Vec ℕ Global)) → Follows w v → Says new answer w v
    → Stands old base mid w → Appends mid after (told answer) → Stands new base after v
said new old base mid after w v answer follows is s wrote = record {
  keeps = is.keeps;
  goes_on = follows.2 ∙ s.goes_on;
  wrote = subst (Appends base after) (sym is.text) (Appends-trans base mid after w.text (told answer) s.wrote wrote);
}

-- a fault in writing the answer to a step
pub said-cut : (new old : Kept) (base mid after : Option (List ℕ)) (w v : Script) (answer : Option (Vec ℕ Global)) (f : RunFault) → Says new answer w v
    → Stands old base mid w → f ≡ fault.Write → AppendsPrefix mid after (told answer) → IsCutBetween base after w v f
said-cut new old base mid after w v answer f is s kind prefix =
    subst (IsCutBetween base after w v) (sym kind) (AppendsPrefix-after base mid after w.text (told answer) v.text is.text s.wrote prefix)

-- a run that stops before it says anything of what comes next
pub stops-before : (k : Kept) (base written : Option (List ℕ)) (w v : Script) → Stands k base written w → Follows w v → StopsBetween base written w v
stops-before k base written w v s m = ([], m.0, m.1, subst (Appends base written) (sym (append-nil w.text)) s.wrote, m.2 ∙ s.goes_on)

-- a fault on the way from one world to the next is one on the way to what follows it
pub cut-extends : (base written : Option (List ℕ)) (w v u : Script) (f : RunFault) → w.ending ≡ None → Follows w v → Follows v u
    → IsCutBetween base written w v f → IsCutBetween base written w u f
cut-extends base written w v u (fault.BadLine n) goes_on a b c = absurd (let e = sym (a.2 ∙ goes_on) ∙ c.0 in cc)
cut-extends base written w v u (fault.LineTooLong n) goes_on a b c = absurd (let e = sym (a.2 ∙ goes_on) ∙ c.0 in cc)
cut-extends base written w v u fault.Write goes_on a b c = AppendsPrefix-longer base written v.text b.0 u.text b.1 c
cut-extends base written w v u fault.Memory goes_on a b c =
    (c.0, c.1 ++ b.0, b.1 ∙ ap (λ t. t ++ b.0) c.2 ∙ append_assoc w.text (c.0 ++ c.1) b.0 ∙ ap (λ t. w.text ++ t) (append_assoc c.0 c.1 b.0), c.3, b.2 ∙ c.4)
cut-extends base written w v u fault.Read goes_on a b c = c
cut-extends base written w v u fault.Endless goes_on a b c = c

-- a fault on the way from a later world is one on the way from an earlier
pub cut-later : (base written : Option (List ℕ)) (w v u : Script) (f : RunFault) → Follows w v → IsCutBetween base written v u f → IsCutBetween base written w u f
cut-later base written w v u (fault.BadLine n) a c = c
cut-later base written w v u (fault.LineTooLong n) a c = c
cut-later base written w v u fault.Write a c = c
cut-later base written w v u fault.Memory a c = (
  a.0 ++ c.0,
  c.1,
  c.2 ∙ ap (λ t. t ++ (c.0 ++ c.1)) a.1 ∙ append_assoc w.text a.0 (c.0 ++ c.1) ∙ ap (λ t. w.text ++ t) (sym (append_assoc a.0 c.0 c.1)),
  subst (Appends base written) (ap (λ t. t ++ c.0) a.1 ∙ append_assoc w.text a.0 c.0) c.3,
  c.4,
)
cut-later base written w v u fault.Read a c = c
cut-later base written w v u fault.Endless a c = c

-- ---- replies, one after another

-- if none is due, nothing changes, with any luck
pub all-still : (place : ℕ) (w : Script) (list : List (List Luck)) → ((lucks : List Luck) → next_reply place w lucks ≡ w) → fold (next_reply place) w list ≡ w
all-still place w [] still = refl
all-still place w (lucks ∷ list) still = ap (λ v. fold (next_reply place) v list) (still lucks) ∙ all-still place w list still

so_many-all : (n : ℕ) (list : List (List Luck)) → length list ≡ n → so_many n list ≡ list
so_many-all zero [] e = refl
so_many-all zero (lucks ∷ list) e = absurd (omega (arith, e))
so_many-all (suc n) [] e = absurd (omega (arith, e))
so_many-all (suc n) (lucks ∷ list) e = ap (λ more. lucks ∷ more) (so_many-all n list (omega (arith, e)))

so_many-more : (n : ℕ) (list : List (List Luck)) → length list ≤ n → so_many n list ≡ list ++ so_many (n - length list) []
so_many-more n [] h = let same : n ≡ n - 0 = omega arith in ap (λ m. so_many m []) same
so_many-more zero (lucks ∷ list) h = absurd (omega (arith, h))
so_many-more (suc n) (lucks ∷ list) h =
    let left : n - length list ≡ suc n - length (lucks ∷ list) = omega arith in
    ap (λ more. lucks ∷ more) (so_many-more n list (omega (arith, h)) ∙ ap (λ m. list ++ so_many m []) left)

-- these replies are written first, and then the others that are due
pub rest_at-more : (replies : List (List Luck)) (place : ℕ) (w : Script) → length replies ≤ length w.rooms.waits
    → rest_at replies place w ≡ fold (next_reply place) (fold (next_reply place) w replies) (so_many (length w.rooms.waits - length replies) [])
rest_at-more replies place w h =
    ap (fold (next_reply place) w) (so_many-more (length w.rooms.waits) replies h)
    ∙ fold-append (next_reply place) w replies (so_many (length w.rooms.waits - length replies) [])

-- these are all
pub rest_at-all : (replies : List (List Luck)) (place : ℕ) (w : Script) → length replies ≡ length w.rooms.waits → rest_at replies place w ≡ fold (next_reply place) w replies
rest_at-all replies place w e = ap (fold (next_reply place) w) (so_many-all (length w.rooms.waits) replies e)
