-- One act after another: the replies that are due, and the readings of all channels.
use Rattle.std.proofs.Common.{◌≡◌, ℕ, zero, suc, ◌+◌, ◌-◌, ◌<◌, ◌≤◌, List, [], ◌∷◌, ◌++◌, Option, Some, None, refl, ap, sym, ◌∙◌, subst, fold, length, length-append, take, arith}
use Rattle.std.specs.Io.KnownBytes.{Appends}
use Rattle.std.specs.Prelude.{IfErr, OnOk, Result, Ok, Err}
use Rattle.std.specs.declared.alloc.Global.{Global}
use Rattle.std.specs.declared.vec.Vec.{Vec}
use Rattle.std.proofs.lemmas.List.{take_all}
use Rattle.std.proofs.lemmas.List.Sums.{fold-append}
use Rattle.ll_connection.specs.Visit.{Luck}
use Rattle.ll_device.specs.Written.{AppendsPrefix}
use Rattle.ll_settings.specs.Settings.{Configuration}
use Rattle.ll_script.specs.Lines.{clocks_from}
use Rattle.ll_script.specs.declared.act.Act.{Act}
use Rattle.ll_script.specs.declared.act.Act.TheVariants.{Clock}
use Rattle.ll_replay.specs.Cuts.{IsCutBetween}
use Rattle.ll_replay.specs.Kept.{Keeps, Kept, Says, Stands, kept_script, met, told}
use Rattle.ll_replay.specs.Script.{Lot, Script, act, acted, done, makes_due, rest, rest_at, so_many, next_reply, with_lots}
use Rattle.ll_replay.specs.declared.outcome.RunFault.{RunFault}
use Rattle.ll_replay.specs.declared.outcome.RunFault.TheVariants as fault
use Rattle.ll_replay.proofs.DriverLemmas.{all-still, cut-extends, cut-later, rest_at-all, rest_at-more, said, said-cut, stops-before}
use Rattle.ll_replay.proofs.ScriptLaws.{Follows, act-follows, all_done-follow, done-follows, rest-follows, next_reply-follows, ticks-follow}

-- ---- the replies that are due

-- `n` replies of the channel at `place` were written
abbrev pub Goes : (first now : Kept) (before mid : Option (List ℕ)) (place n : ℕ) → Type 0
Goes first now before mid place n = (w : Script) (base : Option (List ℕ)) → Stands first base before w
    → (list : List (List Luck)) × (length list ≡ n) × Stands now base mid (fold (next_reply place) w list)

-- with the rest of a channel's replies a driver stands
abbrev pub Rests : (first now : Kept) (before after : Option (List ℕ)) (place : ℕ) → Type 0
Rests first now before after place = (w : Script) (base : Option (List ℕ)) → Stands first base before w
    → (replies : List (List Luck)) × Stands now base after (rest_at replies place w)

-- a fault on the way there
abbrev pub RestsCut : (first : Kept) (before after : Option (List ℕ)) (place : ℕ) → RunFault → Type 0
RestsCut first before after place f = (w : Script) (base : Option (List ℕ)) → Stands first base before w
    → (replies : List (List Luck)) × IsCutBetween base after w (rest_at replies place w) f

bound : (first : Kept) (w : Script) (n : ℕ) → n ≡ length first.rooms.waits → first ≡ kept_script w → n ≡ length w.rooms.waits
bound first w n e same = e ∙ ap (λ (k : Kept). length k.rooms.waits) same

-- one more is written
pub rest-next : (first now new : Kept) (before mid after : Option (List ℕ)) (place n : ℕ) (answer : Option (Vec ℕ Global)) → Goes first now before mid place n
    → ((w : Script) → Keeps now w → (lucks : List Luck) × Says new answer w (next_reply place w lucks)) → Appends mid after (told answer) → Goes first new before after place (n + 1)
rest-next first now new before mid after place n answer goes says wrote w base s =
    let t = goes w base s in
    let v = fold (next_reply place) w t.0 in
    let next = says v t.2.keeps in
    let count : length (t.0 ++ next.0 ∷ []) ≡ n + 1 = rw length-append (omega (arith, t.1)) in (
      t.0 ++ next.0 ∷ [],
      count,
      subst (Stands new base after) (sym (fold-append (next_reply place) w t.0 (next.0 ∷ [])))
          (said new now base mid after v (next_reply place v next.0) answer (next_reply-follows place v next.0) next.1 t.2 wrote),
    )

-- all that were due are written
pub rest-all : (first now : Kept) (before mid : Option (List ℕ)) (place n m : ℕ) → Goes first now before mid place n → m ≡ length first.rooms.waits → n ≡ m
    → Rests first now before mid place
rest-all first now before mid place n m goes e last w base s =
    let t = goes w base s in
    (t.0, subst (Stands now base mid) (sym (rest_at-all t.0 place w (t.1 ∙ last ∙ bound first w m e s.keeps.stands))) t.2)

-- no further one is due
pub rest-none : (first now new : Kept) (before mid : Option (List ℕ)) (place n m : ℕ) → Goes first now before mid place n → m ≡ length first.rooms.waits → n < m
    → ((w : Script) → Keeps now w → (lucks : List Luck) × Says new None w (next_reply place w lucks)) → ((w : Script) → Keeps now w → (lucks : List Luck) → next_reply place w lucks ≡ w)
    → Rests first new before mid place
rest-none first now new before mid place n m goes e less says still w base s =
    let t = goes w base s in
    let v = fold (next_reply place) w t.0 in
    let none = still v t.2.keeps in
    let next = says v t.2.keeps in
    let long = bound first w m e s.keeps.stands in
    let is = rest_at-more t.0 place w (omega (arith, less, long, t.1)) ∙ all-still place v (so_many (length w.rooms.waits - length t.0) []) none in
    (t.0, subst (Stands new base mid) (sym is) (record { keeps = subst (Keeps new) (none next.0) next.1.keeps; goes_on = t.2.goes_on; wrote = t.2.wrote }))

-- a fault in writing the next one
pub rest-cut : (f : RunFault) (first now new : Kept) (before mid after : Option (List ℕ)) (place n m : ℕ) (answer : Option (Vec ℕ Global)) → Goes first now before mid place n
    → m ≡ length first.rooms.waits → n < m → ((w : Script) → Keeps now w → (lucks : List Luck) × Says new answer w (next_reply place w lucks))
    → f ≡ fault.Write → AppendsPrefix mid after (told answer) → RestsCut first before after place f
rest-cut f first now new before mid after place n m answer goes e less says kind prefix w base s =
    let t = goes w base s in
    let v = fold (next_reply place) w t.0 in
    let next = says v t.2.keeps in
    let long = bound first w m e s.keeps.stands in
    let replies = t.0 ++ next.0 ∷ [] in
    let count : length replies ≤ length w.rooms.waits = rw length-append (omega (arith, t.1, less, long)) in
    let later = so_many (length w.rooms.waits - length replies) [] in
    let to = rest_at-more replies place w count ∙ ap (λ u. fold (next_reply place) u later) (fold-append (next_reply place) w t.0 (next.0 ∷ [])) in (
      replies,
      cut-later base after w v (rest_at replies place w) f (ticks-follow place w t.0)
          (cut-extends base after v (next_reply place v next.0) (rest_at replies place w) f t.2.goes_on (next_reply-follows place v next.0)
          (subst (Follows (next_reply place v next.0)) (sym to) (ticks-follow place (next_reply place v next.0) later))
          (said-cut new now base mid after v (next_reply place v next.0) answer f next.1 t.2 kind prefix)),
    )

-- out of memory at the next one
pub rest-stops : (first now : Kept) (before mid : Option (List ℕ)) (place n m : ℕ) → Goes first now before mid place n → m ≡ length first.rooms.waits → n < m
    → RestsCut first before mid place fault.Memory
rest-stops first now before mid place n m goes e less w base s =
    let t = goes w base s in
    let v = fold (next_reply place) w t.0 in
    let long = bound first w m e s.keeps.stands in
    let later = so_many (length w.rooms.waits - length t.0) [] in
    let to = rest_at-more t.0 place w (omega (arith, less, long, t.1)) in (
      t.0,
      cut-later base mid w v (rest_at t.0 place w) fault.Memory (ticks-follow place w t.0)
          (stops-before now base mid v (rest_at t.0 place w) t.2 (subst (Follows v) (sym to) (ticks-follow place v later))),
    )

-- ---- an act and what it makes due

-- with an act done a driver stands, and replies may be due here
abbrev pub Acts : (first now : Kept) (before after : Option (List ℕ)) (due : Option ℕ) → Act → Type 0
Acts first now before after due a = (w : Script) (base : Option (List ℕ)) → Stands first base before w
    → (lot : Lot) × (due ≡ makes_due (met lot a)) × Stands now base after (act lot.requests w (met lot a))

-- with it and its replies a driver stands
abbrev pub Does : (first now : Kept) (before after : Option (List ℕ)) → Act → Type 0
Does first now before after a = (w : Script) (base : Option (List ℕ)) → Stands first base before w → (lot : Lot) × Stands now base after (done w (lot, a))

-- a fault on the way there
abbrev pub DoesCut : (first : Kept) (before after : Option (List ℕ)) → Act → RunFault → Type 0
DoesCut first before after a f = (w : Script) (base : Option (List ℕ)) → Stands first base before w → (lot : Lot) × IsCutBetween base after w (done w (lot, a)) f

pub done-quiet : (first now : Kept) (before after : Option (List ℕ)) (due : Option ℕ) (a : Act) → due ≡ None → Acts first now before after due a
    → Does first now before after a
done-quiet first now before after due a none goes w base s =
    let t = goes w base s in
    (t.0, subst (λ o. Stands now base after (rest t.0.replies o (act t.0.requests w (met t.0 a)))) (sym none ∙ t.1) t.2)

pub done-rests : (first mid now : Kept) (before between after : Option (List ℕ)) (a : Act) (place : ℕ) → Acts first mid before between (Some place) a
    → Rests mid now between after place → Does first now before after a
done-rests first mid now before between after a place goes rests w base s =
    let t = goes w base s in
    let v = act t.0.requests w (met t.0 a) in
    let r = rests v base t.2 in
    (record t.0 { replies = r.0 }, subst (λ due. Stands now base after (rest r.0 due v)) t.1 r.1)

-- a fault in doing it
pub done-act_cut : (f : RunFault) (first : Kept) (before after : Option (List ℕ)) (a : Act)
    → ((w : Script) (base : Option (List ℕ)) → Stands first base before w → (lot : Lot) × IsCutBetween base after w (act lot.requests w (met lot a)) f)
    → DoesCut first before after a f
done-act_cut f first before after a cut w base s =
    let t = cut w base s in
    let v = act t.0.requests w (met t.0 a) in
    (t.0, cut-extends base after w v (done w (t.0, a)) f s.goes_on (act-follows t.0.requests w (met t.0 a)) (rest-follows t.0.replies v (makes_due (met t.0 a))) t.1)

-- a fault in writing the replies
pub done-rest_cut : (f : RunFault) (first mid : Kept) (before between after : Option (List ℕ)) (a : Act) (place : ℕ) → Acts first mid before between (Some place) a
    → RestsCut mid between after place f → DoesCut first before after a f
done-rest_cut f first mid before between after a place goes cut w base s =
    let t = goes w base s in
    let v = act t.0.requests w (met t.0 a) in
    let r = cut v base t.2 in
    let lot = record t.0 { replies = r.0 } in
    (lot, cut-later base after w v (done w (lot, a)) f (act-follows t.0.requests w (met t.0 a)) (subst (λ due. IsCutBetween base after v (rest r.0 due v) f) t.1 r.1))

pub done-rests_ok : {T : Type 0} (r : Result T RunFault) (first mid now : Kept) (before between after : Option (List ℕ)) (due : Option ℕ) (a : Act) (place : ℕ)
    → due ≡ Some place → Acts first mid before between due a → OnOk r (Rests mid now between after place) → OnOk r (Does first now before after a)
done-rests_ok (Ok x) first mid now before between after due a place is goes rests =
    done-rests first mid now before between after a place (subst (λ o. Acts first mid before between o a) is goes) rests
done-rests_ok (Err f) first mid now before between after due a place is goes rests = tt

pub done-rests_cut : {T : Type 0} (r : Result T RunFault) (first mid : Kept) (before between after : Option (List ℕ)) (due : Option ℕ) (a : Act) (place : ℕ)
    → due ≡ Some place → Acts first mid before between due a → IfErr r (RestsCut mid between after place) → IfErr r (DoesCut first before after a)
done-rests_cut (Ok x) first mid before between after due a place is goes cut = tt
done-rests_cut (Err f) first mid before between after due a place is goes cut =
    done-rest_cut f first mid before between after a place (subst (λ o. Acts first mid before between o a) is goes) cut

-- ---- the readings of all channels

at_first : (k : ℕ) → k ≡ k + 0
at_first k = omega arith

next_place : (k n : ℕ) → k + 1 + n ≡ k + suc n
next_place k n = omega arith

clocks_next : (k : ℕ) (all : List Configuration) (n ms : ℕ) → n < length all → clocks_from k (take (suc n) all) ms ≡ clocks_from k (take n all) ms ++ Clock (k + n) ms ∷ []
clocks_next k [] n ms h = absurd (omega arith)
clocks_next k (c ∷ all) zero ms h = ap (λ m. Clock m ms ∷ []) (at_first k)
clocks_next k (c ∷ all) (suc n) ms h =
    ap (λ list. Clock k ms ∷ list) (clocks_next (k + 1) all n ms (omega arith) ∙ ap (λ m. clocks_from (k + 1) (take n all) ms ++ Clock m ms ∷ []) (next_place k n))

clocks_cut : (k : ℕ) (all : List Configuration) (n ms : ℕ) → n < length all → (more : List Act) × (clocks_from k all ms ≡ clocks_from k (take n all) ms ++ Clock (k + n) ms ∷ more)
clocks_cut k [] n ms h = absurd (omega arith)
clocks_cut k (c ∷ all) zero ms h = (clocks_from (k + 1) all ms, ap (λ m. Clock m ms ∷ clocks_from (k + 1) all ms) (at_first k))
clocks_cut k (c ∷ all) (suc n) ms h =
    let rest = clocks_cut (k + 1) all n ms (omega arith) in
    (rest.0, ap (λ list. Clock k ms ∷ list) (rest.1 ∙ ap (λ m. clocks_from (k + 1) (take n all) ms ++ Clock m ms ∷ rest.0) (next_place k n)))

-- acts one after another, each with its lot
with_lots-append : (lots more : List Lot) (list later : List Act) → length lots ≡ length list
    → with_lots (lots ++ more) (list ++ later) ≡ with_lots lots list ++ with_lots more later
with_lots-append [] more [] later e = refl
with_lots-append [] more (a ∷ list) later e = absurd (omega (arith, e))
with_lots-append (lot ∷ lots) more [] later e = absurd (omega (arith, e))
with_lots-append (lot ∷ lots) more (a ∷ list) later e = ap (λ all. (lot, a) ∷ all) (with_lots-append lots more list later (omega (arith, e)))

clocks-count : (k : ℕ) (all : List Configuration) (n ms : ℕ) → n ≤ length all → length (clocks_from k (take n all) ms) ≡ n
clocks-count k all zero ms h = refl
clocks-count k [] (suc n) ms h = absurd (omega (arith, h))
clocks-count k (c ∷ all) (suc n) ms h = let more = clocks-count (k + 1) all n ms (omega (arith, h)) in omega (arith, more)

-- the script after the first `n` channels have taken the reading
abbrev pub told_before : List Lot → List Configuration → ℕ → ℕ → Script → Script
told_before lots all n ms w = fold done w (with_lots lots (clocks_from 0 (take n all) ms))

no_more : (n : ℕ) → 0 + n ≡ n
no_more n = omega arith

-- with these readings a driver stands
abbrev pub Told : (first now : Kept) (before mid : Option (List ℕ)) (all : List Configuration) (n ms : ℕ) → Type 0
Told first now before mid all n ms = (w : Script) (base : Option (List ℕ)) → Stands first base before w
    → (lots : List Lot) × (length lots ≡ n) × Stands now base mid (told_before lots all n ms w)

-- the readings so far and one more, with those after it
clocks-parts : (all : List Configuration) (n ms : ℕ) (w : Script) (lots more : List Lot) (later : List Act) → n < length all → length lots ≡ n
    → fold done w (with_lots (lots ++ more) (clocks_from 0 (take n all) ms ++ later)) ≡ fold done (told_before lots all n ms w) (with_lots more later)
clocks-parts all n ms w lots more later h count =
    let first = clocks_from 0 (take n all) ms in
    let same : length lots ≡ length first = count ∙ sym (clocks-count 0 all n ms (omega (arith, h))) in
    ap (fold done w) (with_lots-append lots more first later same) ∙ fold-append done w (with_lots lots first) (with_lots more later)

pub clocks-next : (first now new : Kept) (before mid after : Option (List ℕ)) (all : List Configuration) (n ms : ℕ) → n < length all
    → Told first now before mid all n ms → Does now new mid after (Clock n ms) → Told first new before after all (n + 1) ms
clocks-next first now new before mid after all n ms h goes does w base s =
    let t = goes w base s in
    let v = told_before t.0 all n ms w in
    let next = does v base t.2 in
    let one : n + 1 ≡ suc n = omega arith in
    let count : length (t.0 ++ next.0 ∷ []) ≡ n + 1 = rw length-append (omega (arith, t.1)) in
    let is =
    ap (λ m. told_before (t.0 ++ next.0 ∷ []) all m ms w) one
    ∙ ap (λ list. fold done w (with_lots (t.0 ++ next.0 ∷ []) list)) (clocks_next 0 all n ms h ∙ ap (λ m. clocks_from 0 (take n all) ms ++ Clock m ms ∷ []) (no_more n))
    ∙ clocks-parts all n ms w t.0 (next.0 ∷ []) (Clock n ms ∷ []) h t.1 in
    (t.0 ++ next.0 ∷ [], count, subst (Stands new base after) (sym is) next.1)

-- with all readings a driver stands
abbrev pub ToldAll : (first now : Kept) (before after : Option (List ℕ)) (list : List Act) → Type 0
ToldAll first now before after list = (w : Script) (base : Option (List ℕ)) → Stands first base before w → (lots : List Lot) × Stands now base after (acted lots w (Some list))

-- a fault on the way there
abbrev pub ToldCut : (first : Kept) (before after : Option (List ℕ)) (list : List Act) → RunFault → Type 0
ToldCut first before after list f = (w : Script) (base : Option (List ℕ)) → Stands first base before w
    → (lots : List Lot) × IsCutBetween base after w (acted lots w (Some list)) f

pub clocks-cut : (f : RunFault) (first now : Kept) (before mid after : Option (List ℕ)) (all : List Configuration) (n ms : ℕ) → n < length all
    → Told first now before mid all n ms → DoesCut now mid after (Clock n ms) f → ToldCut first before after (clocks_from 0 all ms) f
clocks-cut f first now before mid after all n ms h goes cut w base s =
    let t = goes w base s in
    let v = told_before t.0 all n ms w in
    let next = cut v base t.2 in
    let lots = t.0 ++ next.0 ∷ [] in
    let parts = clocks_cut 0 all n ms h in
    let u = done v (next.0, Clock n ms) in
    let later = with_lots [] parts.0 in
    let is =
    ap (λ list. fold done w (with_lots lots list)) (parts.1 ∙ ap (λ m. clocks_from 0 (take n all) ms ++ Clock m ms ∷ parts.0) (no_more n))
    ∙ clocks-parts all n ms w t.0 (next.0 ∷ []) (Clock n ms ∷ parts.0) h t.1 in (
      lots,
      subst (λ x. IsCutBetween base after w x f) (sym is)
          (cut-later base after w v (fold done u later) f (all_done-follow w (with_lots t.0 (clocks_from 0 (take n all) ms)))
          (cut-extends base after v u (fold done u later) f t.2.goes_on (done-follows v next.0 (Clock n ms)) (all_done-follow u later) next.1)),
    )

pub all-told : (first now : Kept) (before mid : Option (List ℕ)) (all : List Configuration) (n ms : ℕ) → n ≡ length all → Told first now before mid all n ms
    → ToldAll first now before mid (clocks_from 0 all ms)
all-told first now before mid all n ms e goes w base s =
    let t = goes w base s in
    let whole = ap (λ m. take m all) e ∙ take_all (length all) all (omega arith) in
    (t.0, subst (λ list. Stands now base mid (fold done w (with_lots t.0 (clocks_from 0 list ms)))) whole t.2)

-- a line that makes one thing happen
pub one-told : {T E : Type 0} (r : Result T E) (first now : Kept) (before after : Option (List ℕ)) (list : List Act) (a : Act) → list ≡ a ∷ []
    → OnOk r (Does first now before after a) → OnOk r (ToldAll first now before after list)
one-told (Ok x) first now before after list a is does = λ w base s.
    let t = does w base s in
    (t.0 ∷ [], subst (λ l. Stands now base after (fold done w (with_lots (t.0 ∷ []) l))) (sym is) t.1)
one-told (Err e) first now before after list a is does = tt

pub one-cut : {T : Type 0} (r : Result T RunFault) (first : Kept) (before after : Option (List ℕ)) (list : List Act) (a : Act) → list ≡ a ∷ []
    → IfErr r (DoesCut first before after a) → IfErr r (ToldCut first before after list)
one-cut (Ok x) first before after list a is cut = tt
one-cut (Err f) first before after list a is cut = λ w base s.
    let t = cut w base s in
    (t.0 ∷ [], subst (λ l. IsCutBetween base after w (fold done w (with_lots (t.0 ∷ []) l)) f) (sym is) t.1)
