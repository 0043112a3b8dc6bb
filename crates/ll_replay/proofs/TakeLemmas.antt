-- How one line changes a driver that stands for a script, by what the line means.
use Rattle.std.proofs.Common.{◌≡◌, ℕ, ◌+◌, ◌<◌, ◌≤◌, List, [], ◌∷◌, Bool, true, false, Option, Some, None, refl, ap, sym, ◌∙◌, subst, fold, length, map, Result, Ok, Err, OnOk, IfErr, IsSome}
use Rattle.std.specs.Prelude.{if◌then◌else◌, option_map}
use Rattle.std.proofs.lemmas.Option.{none-some, same_Some}
use Rattle.std.specs.Io.KnownBytes.{Appends}
use Rattle.ll_script.specs.Lines.{AreRead, acts, meant_acts, starved, starved_if, tells_memory}
use Rattle.ll_script.specs.declared.act.Act.{Act}
use Rattle.ll_script.specs.declared.act.Act.TheVariants as act
use Rattle.ll_script.specs.declared.act.Acts.{Acts}
use Rattle.ll_replay.specs.Cuts.{IsCutBetween}
use Rattle.ll_replay.specs.Kept.{Kept, Stands}
use Rattle.ll_replay.specs.Stream.{StopsBetween}
use Rattle.ll_replay.specs.Script.{Script, BadLine, LineTooLong, Lot, acted, counted, done, done_as, line, plain, with_lots}
use Rattle.ll_replay.specs.declared.outcome.RunFault.{RunFault}
use Rattle.ll_replay.specs.declared.outcome.RunFault.TheVariants as fault
use Rattle.ll_replay.proofs.DriverLemmas.{stops-before}
use Rattle.ll_replay.proofs.RestLemmas.{ToldAll, ToldCut}
use Rattle.ll_replay.proofs.ScriptLaws.{Follows, acted-follows, line-means, line-too-long}

-- ---- lines whose item or request is out of memory

-- the same lot, except that the item or the request is out of memory
abbrev without_memory : Lot → Lot
without_memory lot = record lot { refused = true }

-- the lots of these acts, of which each item or request is out of memory
abbrev refused : List Lot → List Act → List Lot
refused lots [] = []
refused [] (a ∷ list) = without_memory plain ∷ refused [] list
refused (lot ∷ lots) (a ∷ list) = without_memory lot ∷ refused lots list

-- what an act becomes if it is out of memory stays as it is
starved-twice : (a : Act) → starved (starved a) ≡ starved a
starved-twice (act.Declare settings) = refl
starved-twice (act.Offer place item) = refl
starved-twice (act.At place rendition) = refl
starved-twice (act.Refuse reason) = refl
starved-twice (act.Ask id place want) = refl
starved-twice (act.Answer id fault) = refl
starved-twice (act.Close id) = refl
starved-twice (act.Clock place ms) = refl
starved-twice act.RefuseClock = refl
starved-twice (act.Bytes n piece) = refl
starved-twice (act.Drop n) = refl

done-starved : (w : Script) (lot : Lot) (a : Act) → done w (without_memory lot, a) ≡ done w (lot, starved a)
done-starved w lot a = ap (done_as lot w) (sym (by_lot lot.refused))
  where
    by_lot : (b : Bool) → (if b then starved (starved a) else starved a) ≡ starved a
    by_lot true = starved-twice a
    by_lot false = refl

all_done-starved : (w : Script) (lots : List Lot) (list : List Act) → fold done w (with_lots (refused lots list) list) ≡ fold done w (with_lots lots (map starved list))
all_done-starved w [] [] = refl
all_done-starved w (lot ∷ lots) [] = refl
all_done-starved w [] (a ∷ list) =
    ap (λ v. fold done v (with_lots (refused [] list) list)) (done-starved w plain a) ∙ all_done-starved (done w (plain, starved a)) [] list
all_done-starved w (lot ∷ lots) (a ∷ list) =
    ap (λ v. fold done v (with_lots (refused lots list) list)) (done-starved w lot a) ∙ all_done-starved (done w (lot, starved a)) lots list

-- a line by what was read of it: with some lots it has the same result
read-comes_to : (lots : List Lot) (w : Script) (b : Bool) (meant : Option (List Act)) (list : List Act) → option_map (starved_if b) meant ≡ Some list
    → (more : List Lot) × (acted more w meant ≡ acted lots w (Some list))
read-comes_to lots w b None list e = absurd (none-some list e)
read-comes_to lots w false (Some meant) list e = (lots, ap (λ l. fold done w (with_lots lots l)) (same_Some meant list e))
read-comes_to lots w true (Some meant) list e =
    (refused lots meant, all_done-starved w lots meant ∙ ap (λ l. fold done w (with_lots lots l)) (same_Some (map starved meant) list e))

-- ---- one more line

abbrev pub count_line : Kept → Kept
count_line k = record k { lines = k.lines + 1 }

-- the line of a world that a driver stands for, by what it means to the driver
line-is : (k : Kept) (base written : Option (List ℕ)) (w : Script) (text : List ℕ) (lots : List Lot) (o : Option (List Act)) → Stands k base written w
    → length text ≤ 65536 → acts k.declared k.last_id text ≡ o → line w (record { text = text; lots = lots }) ≡ acted lots (counted w) o
line-is k base written w text lots o s short means =
    line-means w (record { text = text; lots = lots }) o s.goes_on short (sym (ap (λ (q : Kept). acts q.declared q.last_id text) s.keeps.stands) ∙ means)

-- one more line is counted
Stands-counted : (k : Kept) (base written : Option (List ℕ)) (w : Script) → Stands k base written w → Stands (count_line k) base written (counted w)
Stands-counted k base written w s = record { keeps = record { stands = ap count_line s.keeps.stands; silent = s.keeps.silent }; goes_on = s.goes_on; wrote = s.wrote }

-- with one more line a driver stands
abbrev pub Takes : (now new : Kept) (before after : Option (List ℕ)) (text : List ℕ) → Type 0
Takes now new before after text = (w : Script) (base : Option (List ℕ)) → Stands now base before w
    → (lots : List Lot) × Stands new base after (line w (record { text = text; lots = lots }))

-- a fault on the way there
abbrev pub TakesCut : (now : Kept) (before after : Option (List ℕ)) (text : List ℕ) → RunFault → Type 0
TakesCut now before after text f = (w : Script) (base : Option (List ℕ)) → Stands now base before w
    → (lots : List Lot) × IsCutBetween base after w (line w (record { text = text; lots = lots })) f

-- a line of which these acts were read
pub take-acts : {T E : Type 0} (k now new : Kept) (before after : Option (List ℕ)) (text : List ℕ) (a : Acts) (r : Result T E)
    → k ≡ now → length text ≤ 65536 → AreRead k.declared (acts k.declared k.last_id text) a
    → OnOk r (ToldAll (count_line k) new before after (meant_acts k.declared a)) → OnOk r (Takes now new before after text)
take-acts k now new before after text a (Ok x) same short means goes = λ w base stands_now.
    let s = subst (λ q. Stands q base before w) (sym same) stands_now in
    let t = goes (counted w) base (Stands-counted k base before w s) in
    let read = read-comes_to t.0 (counted w) (tells_memory a) (acts k.declared k.last_id text) (meant_acts k.declared a) means in
    (read.0, subst (λ (v : Script). Stands new base after v) (sym (line-is k base before w text read.0 (acts k.declared k.last_id text) s short refl ∙ read.1)) t.1)
take-acts k now new before after text a (Err e) same short means goes = tt

-- counting a line says nothing
cut-counted : (f : RunFault) (base after : Option (List ℕ)) (w v : Script) → IsCutBetween base after (counted w) v f → IsCutBetween base after w v f
cut-counted fault.Read base after w v c = c
cut-counted fault.Write base after w v c = c
cut-counted (fault.BadLine n) base after w v c = c
cut-counted (fault.LineTooLong n) base after w v c = c
cut-counted fault.Endless base after w v c = c
cut-counted fault.Memory base after w v c = c

-- the same where it is cut short
pub take-cut : {T : Type 0} (k now : Kept) (before after : Option (List ℕ)) (text : List ℕ) (a : Acts) (r : Result T RunFault)
    → k ≡ now → length text ≤ 65536 → AreRead k.declared (acts k.declared k.last_id text) a
    → IfErr r (ToldCut (count_line k) before after (meant_acts k.declared a)) → IfErr r (TakesCut now before after text)
take-cut k now before after text a (Ok x) same short means cut = tt
take-cut k now before after text a (Err f) same short means cut = λ w base stands_now.
    let s = subst (λ q. Stands q base before w) (sym same) stands_now in
    let t = cut (counted w) base (Stands-counted k base before w s) in
    let read = read-comes_to t.0 (counted w) (tells_memory a) (acts k.declared k.last_id text) (meant_acts k.declared a) means in (
      read.0,
      subst (λ (v : Script). IsCutBetween base after w v f) (sym (line-is k base before w text read.0 (acts k.declared k.last_id text) s short refl ∙ read.1))
          (cut-counted f base after w (acted t.0 (counted w) (Some (meant_acts k.declared a))) t.1),
    )

-- a line that no script has in its place
pub take-bad : (k now : Kept) (before : Option (List ℕ)) (text : List ℕ) → k ≡ now → length text ≤ 65536 → acts k.declared k.last_id text ≡ None
    → TakesCut now before before text (fault.BadLine (k.lines + 1))
take-bad k now before text same short means w base stands_now =
    let s = subst (λ q. Stands q base before w) (sym same) stands_now in
    let is = line-is k base before w text [] None s short means in (
      [],
      (
        ap (λ (v : Script). v.ending) is ∙ ap (λ (q : Kept). Some (BadLine (q.lines + 1))) (sym s.keeps.stands),
        subst (λ (v : Script). Appends base before v.text) (sym is) s.wrote,
      ),
    )

-- a line of too many bytes
pub take-too_long : (k now : Kept) (before : Option (List ℕ)) (text : List ℕ) → k ≡ now → 65536 < length text
    → TakesCut now before before text (fault.LineTooLong (k.lines + 1))
take-too_long k now before text same long w base stands_now =
    let s = subst (λ q. Stands q base before w) (sym same) stands_now in
    let is = line-too-long w (record { text = text; lots = [] }) s.goes_on long in
    ([], (is.0 ∙ ap (λ (q : Kept). Some (LineTooLong (q.lines + 1))) (sym s.keeps.stands), subst (Appends base before) (sym is.1) s.wrote))

-- out of memory at a line that means something
pub take-nowhere : (k now : Kept) (before : Option (List ℕ)) (text : List ℕ) → k ≡ now → length text ≤ 65536 → IsSome (acts k.declared k.last_id text)
    → TakesCut now before before text fault.Memory
take-nowhere k now before text same short some w base stands_now = by_meaning (acts k.declared k.last_id text) refl some
  where
    s : Stands k base before w
    s = subst (λ q. Stands q base before w) (sym same) stands_now

    by_meaning : (o : Option (List Act)) → acts k.declared k.last_id text ≡ o → IsSome o
        → (lots : List Lot) × StopsBetween base before w (line w (record { text = text; lots = lots }))
    by_meaning None e h = absurd (let k = h in cc)
    by_meaning (Some list) e h = (
      [],
      stops-before k base before w (line w (record { text = text; lots = [] })) s
          (subst (λ (v : Script). Follows w v) (sym (line-is k base before w text [] (Some list) s short e)) (acted-follows [] (counted w) list)),
    )
