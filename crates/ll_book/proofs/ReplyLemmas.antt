-- The replies of a release, found by their tickets.
use Rattle.std.proofs.Common.{◌≡◌, ℕ, ◌+◌, ◌==◌, List, [], ◌∷◌, Bool, true, false, cond, Option, Some, None, filter, find, is_some, length, map, option_and_then, option_map, refl, ap, ap₂, sym, ◌∙◌, subst, true≢false, arith, nat_cmp}
use Rattle.std.proofs.lemmas.Bool.Decides.{nat_tests}
use Rattle.std.proofs.lemmas.Option.{none-some}
use Rattle.std.specs.BTreeMap.{is_at}
use Rattle.ll_book.specs.Numbers.{AreRising, change_if, changed}
use Rattle.ll_book.proofs.Finds.{find_changed, find_map, its_number, rising_map, same_rising}
use Rattle.ll_book.proofs.Keyed.{is_number, lower}
use Rattle.ll_verdict.specs.Waiting.{has_ticket, settled_in, ticket_in}
use Rattle.ll_verdict.specs.declared.entry.Entry.{Entry}
use Rattle.ll_verdict.specs.declared.entry.Slot.{Slot}
use Rattle.ll_verdict.specs.declared.reply.Settled.{Settled}
use Rattle.ll_book.specs.Orders.{IsWaiting, reply_under, settle_with}
use Rattle.ll_book.specs.Release.{AreThose, frees, holders_left, released, takes, with_holder}
use Rattle.ll_book.specs.declared.release.Release.{Release}
use Rattle.ll_book.proofs.TakeLemmas.{one_fewer, passes_not, step}

abbrev pub replied_with : Option Settled → Slot → Slot
replied_with None s = s
replied_with (Some p) s = record s { settled = Some p }

abbrev pub replied_by : Bool → List (ℕ × Settled) → Slot → Slot
replied_by true replies s = replied_with (reply_under replies s.entry.ticket) s
replied_by false replies s = s

-- a request after a release that has these replies
abbrev pub replied : Release → List (ℕ × Settled) → Slot → Slot
replied which replies s = replied_by (takes which s) replies s

-- each request that a release takes has a reply
abbrev pub HasReplies : Release → List (ℕ × Settled) → List Slot → Type 0
HasReplies which replies slots = (e : Entry) → IsWaiting e slots → frees which e.wanted ≡ true → is_some (reply_under replies e.ticket) ≡ true

replied_ticket : (which : Release) (replies : List (ℕ × Settled)) (s : Slot) → (replied which replies s).entry.ticket ≡ s.entry.ticket
replied_ticket which replies s = by_take (takes which s)
  where
    by_page : (o : Option Settled) → (replied_with o s).entry.ticket ≡ s.entry.ticket
    by_page None = refl
    by_page (Some p) = refl

    by_take : (b : Bool) → (replied_by b replies s).entry.ticket ≡ s.entry.ticket
    by_take true = by_page (reply_under replies s.entry.ticket)
    by_take false = refl

-- ---- one more has its reply

pub reply_given : (which : Release) (e : Entry) (reply : Settled) (old new : List (ℕ × Settled)) (ss : List Slot) → IsWaiting e ss → frees which e.wanted ≡ true
    → Some reply ≡ reply_under old e.ticket → ((q : ℕ) → reply_under new q ≡ cond (is_at (nat_cmp e.ticket) q) None (reply_under old q))
    → (t : ℕ) → option_map (replied which new) (find (has_ticket t) (changed ticket_in e.ticket (settle_with reply) ss)) ≡ option_map (replied which old) (find (has_ticket t) ss)
reply_given which e reply old new ss w freed had gone =
    step (replied which new) (replied which old) e reply ss w
    (ap (λ o. replied_with o (record { entry = e; settled = None })) had ∙ sym (ap (λ b. replied_by b old (record { entry = e; settled = None })) freed)) others
  where
    others : (s : Slot) → (s.entry.ticket == e.ticket) ≡ false → replied which new s ≡ replied which old s
    others s k = by_take (takes which s)
      where
        by_take : (b : Bool) → replied_by b new s ≡ replied_by b old s
        by_take true = ap (λ o. replied_with o s) (gone s.entry.ticket ∙ ap (λ b. cond b None (reply_under old s.entry.ticket)) (is_number e.ticket s.entry.ticket ∙ k))
        by_take false = refl

-- the others still have theirs
pub replies_left : (which : Release) (e : Entry) (x : Settled) (old new : List (ℕ × Settled)) (ss : List Slot) → HasReplies which old ss
    → ((q : ℕ) → reply_under new q ≡ cond (is_at (nat_cmp e.ticket) q) None (reply_under old q)) → HasReplies which new (changed ticket_in e.ticket (settle_with x) ss)
replies_left which e x old new ss has gone d w freed =
    let before = waited (find (has_ticket d.ticket) ss) refl (sym (find_changed ticket_in (settle_with x) (λ s. refl) d.ticket e.ticket ss) ∙ w) in
    ap is_some (gone d.ticket ∙ ap (λ b. cond b None (reply_under old d.ticket)) (is_number e.ticket d.ticket ∙ before.0)) ∙ has d before.1 freed
  where
    waited_by : (s : Slot) (b : Bool) → s.entry.ticket ≡ d.ticket → (s.entry.ticket == e.ticket) ≡ b → Some (change_if b (settle_with x) s) ≡ Some (record { entry = d; settled = None })
        → ((d.ticket == e.ticket) ≡ false) × (Some s ≡ Some (record { entry = d; settled = None }))
    waited_by s true t k h = absurd (true≢false (ap (λ (o : Option Slot). is_some (option_and_then settled_in o)) h))
    waited_by s false t k h = (ap (λ n. n == e.ticket) (sym t) ∙ k, h)

    waited : (o : Option Slot) → o ≡ find (has_ticket d.ticket) ss → option_map (λ s. change_if (s.entry.ticket == e.ticket) (settle_with x) s) o ≡ Some (record { entry = d; settled = None })
        → ((d.ticket == e.ticket) ≡ false) × (o ≡ Some (record { entry = d; settled = None }))
    waited None f h = absurd (none-some (record { entry = d; settled = None }) h)
    waited (Some s) f h = waited_by s (s.entry.ticket == e.ticket) (its_number ticket_in d.ticket s ss (sym f)) refl h

pub takes_fewer : (which : Release) (e : Entry) (x : Settled) (ss : List Slot) → AreRising ticket_in 0 ss → IsWaiting e ss → frees which e.wanted ≡ true
    → length (filter (takes which) (changed ticket_in e.ticket (settle_with x) ss)) + 1 ≡ length (filter (takes which) ss)
takes_fewer which e x ss r w freed = one_fewer (takes which) e x ss r w freed refl

by_page : (b : Bool) (s : Slot) (new old : List (ℕ × Settled)) → reply_under new s.entry.ticket ≡ reply_under old s.entry.ticket → replied_by b new s ≡ replied_by b old s
by_page true s new old h = ap (λ o. replied_with o s) h
by_page false s new old h = refl

-- ---- the replies that a release wants are those in order

abbrev pub wanted : Release → List Slot → List ℕ
wanted which ss = map ticket_in (filter (takes which) ss)

-- replies of lower tickets make no difference to what comes after
skipped : (which : Release) (h : ℕ × Settled) (hs : List (ℕ × Settled)) (ss : List Slot) → AreRising ticket_in h.0 ss → map (replied which (h ∷ hs)) ss ≡ map (replied which hs) ss
skipped which h hs [] r = refl
skipped which h hs (s ∷ ss) r =
    let apart : (h.0 == s.entry.ticket) ≡ false = grind (arith, nat_tests, r.0) in
    ap₂ (λ y ys. y ∷ ys) (by_page (takes which s) s (h ∷ hs) hs (ap (λ b. cond b (Some h.1) (reply_under hs s.entry.ticket)) (is_number s.entry.ticket h.0 ∙ apart)))
    (skipped which h hs ss (lower ticket_in h.0 s.entry.ticket ss r.0 r.1))

in_order_by : (which : Release) (s : Slot) (ss : List Slot) (hs : List (ℕ × Settled)) (b : Bool) → AreRising ticket_in s.entry.ticket ss
    → map (λ h. h.0) hs ≡ map ticket_in (cond b (s ∷ filter (takes which) ss) (filter (takes which) ss))
    → ((gs : List (ℕ × Settled)) → AreThose which gs ss → map (replied which gs) ss ≡ released which gs ss)
    → replied_by b hs s ∷ map (replied which hs) ss ≡ with_holder b s hs ∷ released which (holders_left b hs) ss
in_order_by which s ss [] true r those ih = absurd (cc)
in_order_by which s ss (h ∷ hs) true r those ih =
    let its : h.0 ≡ s.entry.ticket = cc in
    let rest : map (λ g. g.0) hs ≡ map ticket_in (filter (takes which) ss) = cc in
    let here : (h.0 == s.entry.ticket) ≡ true = grind (arith, nat_tests, its) in
    ap₂ (λ y ys. y ∷ ys) (ap (λ b. replied_with (cond b (Some h.1) (reply_under hs s.entry.ticket)) s) (is_number s.entry.ticket h.0 ∙ here))
    (skipped which h hs ss (subst (λ n. AreRising ticket_in n ss) (sym its) r) ∙ ih hs rest)
in_order_by which s ss hs false r those ih = ap (λ ys. s ∷ ys) (ih hs those)

-- each request that a release takes gets the next of the replies: its own
pub in_order : (which : Release) (low : ℕ) (hs : List (ℕ × Settled)) (ss : List Slot) → AreRising ticket_in low ss → AreThose which hs ss → map (replied which hs) ss ≡ released which hs ss
in_order which low hs [] r those = refl
in_order which low hs (s ∷ ss) r those = in_order_by which s ss hs (takes which s) r.1 those (λ gs h. in_order which s.entry.ticket gs ss r.1 h)

there_by : (which : Release) (e : Entry) (s : Slot) (ss : List Slot) (hs : List (ℕ × Settled)) (b c : Bool) → (s.entry.ticket == e.ticket) ≡ c → takes which s ≡ b → frees which e.wanted ≡ true
    → cond c (Some s) (find (has_ticket e.ticket) ss) ≡ Some (record { entry = e; settled = None })
    → map (λ h. h.0) hs ≡ map ticket_in (cond b (s ∷ filter (takes which) ss) (filter (takes which) ss))
    → ((gs : List (ℕ × Settled)) → AreThose which gs ss → find (has_ticket e.ticket) ss ≡ Some (record { entry = e; settled = None }) → is_some (reply_under gs e.ticket) ≡ true)
    → is_some (reply_under hs e.ticket) ≡ true
there_by which e s ss [] true c h k freed w those ih = absurd (cc)
there_by which e s ss (g ∷ hs) true true h k freed w those ih =
    let its : g.0 ≡ s.entry.ticket = cc in
    let here : (g.0 == e.ticket) ≡ true = grind (arith, nat_tests, its, h) in
    ap (λ b. is_some (cond b (Some g.1) (reply_under hs e.ticket))) (is_number e.ticket g.0 ∙ here)
there_by which e s ss (g ∷ hs) true false h k freed w those ih =
    let its : g.0 ≡ s.entry.ticket = cc in
    let rest : map (λ g. g.0) hs ≡ map ticket_in (filter (takes which) ss) = cc in
    let apart : (g.0 == e.ticket) ≡ false = ap (λ n. n == e.ticket) its ∙ h in
    ap (λ b. is_some (cond b (Some g.1) (reply_under hs e.ticket))) (is_number e.ticket g.0 ∙ apart) ∙ ih hs rest w
there_by which e s ss hs false true h k freed w those ih =
    let same : s ≡ record { entry = e; settled = None } = cc in
    absurd (true≢false (sym freed ∙ sym (ap (takes which) same) ∙ k))
there_by which e s ss hs false false h k freed w those ih = ih hs those w

-- each request that a release takes has its reply
pub have_replies : (which : Release) (hs : List (ℕ × Settled)) (ss : List Slot) → AreThose which hs ss → HasReplies which hs ss
have_replies which hs [] those e w freed = absurd (cc)
have_replies which hs (s ∷ ss) those e w freed =
    there_by which e s ss hs (takes which s) (s.entry.ticket == e.ticket) refl refl freed w those (λ gs h v. have_replies which gs ss h e v freed)

-- ---- before the first and after the last

pub released_found : (which : Release) (hs : List (ℕ × Settled)) (ss : List Slot) → AreRising ticket_in 0 ss → AreThose which hs ss
    → (t : ℕ) → option_map (replied which hs) (find (has_ticket t) ss) ≡ find (has_ticket t) (released which hs ss)
released_found which hs ss r those t = sym (find_map ticket_in (replied which hs) (replied_ticket which hs) t ss) ∙ ap (find (has_ticket t)) (in_order which 0 hs ss r those)

pub all_released : (which : Release) (replies hs : List (ℕ × Settled)) (ss old : List Slot) → AreRising ticket_in 0 ss → AreRising ticket_in 0 old → AreThose which hs old → filter (takes which) ss ≡ []
    → ((t : ℕ) → option_map (replied which replies) (find (has_ticket t) ss) ≡ find (has_ticket t) (released which hs old)) → ss ≡ released which hs old
all_released which replies hs ss old r s those none rest =
    same_rising ticket_in 0 0 ss (released which hs old) r (subst (AreRising ticket_in 0) (in_order which 0 hs old s those) (rising_map ticket_in (replied which hs) (replied_ticket which hs) 0 old s))
    (λ t. still t (find (has_ticket t) ss) refl ∙ rest t)
  where
    still : (t : ℕ) (o : Option Slot) → o ≡ find (has_ticket t) ss → o ≡ option_map (replied which replies) o
    still t None f = refl
    still t (Some s) f = sym (ap (λ b. Some (replied_by b replies s)) (passes_not (takes which) (has_ticket t) s ss none (sym f)))
