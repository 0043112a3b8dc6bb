-- Each step keeps the invariant of a book.
use Rattle.std.proofs.Common.{◌≡◌, ℕ, suc, ◌<◌, ◌≤◌, ◌+◌, ◌==◌, List, [], ◌∷◌, ◌++◌, Bool, true, false, not, cond, Option, Some, None, filter, find, is_none, is_some, length, map, nat_lt, option_map, refl, ap, sym, ◌∙◌, subst, true≢false, arith}
use Rattle.std.proofs.lemmas.List.{append-nil}
use Rattle.std.proofs.lemmas.Option.{none-some}
use Rattle.std.proofs.lemmas.List.Elements.{filter-append}
use Rattle.ll_book.specs.Numbers.{AreRising, all_but, change_if, changed, has_number}
use Rattle.ll_book.specs.Places.{Adds, IsOrder, Removes, stands}
use Rattle.ll_book.specs.declared.place.OrderKey.{OrderKey}
use Rattle.std.proofs.lemmas.Bool.Decides.{nat_tests}
use Rattle.ll_book.proofs.Finds.{find_but, find_changed, find_filter, find_numbers, its_number, kept_if, none_up_to, rising_but, rising_filter, rising_map, rising_numbers, rising_pushed, same_rising}
use Rattle.ll_book.proofs.Keyed.{itself, same}
use Rattle.ll_book.proofs.Orders.{in_place, order_changed, order_left, order_pushed, order_stays, order_undone}
use Rattle.ll_verdict.specs.State.{is_waiting}
use Rattle.ll_verdict.specs.Waiting.{AreBelow, found, has_ticket, is_ready, ticket_in, without}
use Rattle.ll_verdict.specs.declared.entry.Entry.{Entry}
use Rattle.ll_verdict.specs.declared.entry.Slot.{Slot}
use Rattle.ll_verdict.specs.declared.reply.Settled.{Settled}
use Rattle.ll_book.specs.Orders.{IsBook, IsWaiting, is_passed, settle_with, time_at, want_at}
use Rattle.ll_book.proofs.ReadyLemmas.{itself_of}
use Rattle.ll_book.proofs.SlotLemmas.{slot_of, under}

-- ---- the tickets whose replies are there

flip : (n m : ℕ) → (m == n) ≡ false → (n == m) ≡ false
flip n m h = grind (arith, nat_tests, h)

shorter : (t : ℕ) (ns : List ℕ) → length (all_but itself_of t ns) ≤ length ns
shorter t [] = omega arith
shorter t (n ∷ ns) = shorter_by (not (n == t)) n (all_but itself_of t ns) ns (shorter t ns)
  where
    shorter_by : (b : Bool) (n : ℕ) (xs ys : List ℕ) → length xs ≤ length ys → length (cond b (n ∷ xs) xs) ≤ suc (length ys)
    shorter_by true n xs ys h = omega (arith, h)
    shorter_by false n xs ys h = omega (arith, h)

not_both : (s : Slot) → is_ready s ≡ true → is_waiting s ≡ false
not_both s h = by_reply s.settled h
  where
    by_reply : (o : Option Settled) → is_some o ≡ true → is_none o ≡ false
    by_reply None k = absurd (true≢false (sym k))
    by_reply (Some x) k = refl

rising_tickets : (ss : List Slot) → AreRising ticket_in 0 ss → AreRising itself_of 0 (map ticket_in (filter is_ready ss))
rising_tickets ss r = rising_numbers ticket_in 0 (filter is_ready ss) (rising_filter ticket_in is_ready 0 ss r)

find_ticket : (n : ℕ) (ss : List Slot) → AreRising ticket_in 0 ss → find (has_number itself_of n) (map ticket_in (filter is_ready ss)) ≡ option_map ticket_in (kept_if ticket_in is_ready (find (has_ticket n) ss))
find_ticket n ss r = find_numbers ticket_in n (filter is_ready ss) ∙ ap (option_map ticket_in) (find_filter ticket_in is_ready n 0 ss r)

told_pushed : (ss : List Slot) (s : Slot) → is_ready s ≡ false → map ticket_in (filter is_ready (ss ++ s ∷ [])) ≡ map ticket_in (filter is_ready ss)
told_pushed ss s h = ap (map ticket_in) (filter-append is_ready ss (s ∷ []) ∙ ap (λ b. filter is_ready ss ++ cond b (s ∷ []) []) h ∙ append-nil (filter is_ready ss))

told_left : (ss : List Slot) (t : ℕ) → AreRising ticket_in 0 ss → all_but itself_of t (map ticket_in (filter is_ready ss)) ≡ map ticket_in (filter is_ready (without t ss))
told_left ss t r =
    same_rising itself_of 0 0 _ _ (rising_but itself_of t 0 _ (rising_tickets ss r)) (rising_tickets (without t ss) (rising_but ticket_in t 0 ss r))
    (λ n. find_but itself_of n t (map ticket_in (filter is_ready ss)) ∙ ap (λ o. cond (n == t) None o) (find_ticket n ss r) ∙ either (n == t) (find (has_ticket n) ss)
    ∙ sym (find_ticket n (without t ss) (rising_but ticket_in t 0 ss r) ∙ ap (λ o. option_map ticket_in (kept_if ticket_in is_ready o)) (find_but ticket_in n t ss)))
  where
    either : (b : Bool) (o : Option Slot) → cond b None (option_map ticket_in (kept_if ticket_in is_ready o)) ≡ option_map ticket_in (kept_if ticket_in is_ready (cond b None o))
    either true o = refl
    either false o = refl

pub rising_changed : (t : ℕ) (x : Settled) (ss : List Slot) → AreRising ticket_in 0 ss → AreRising ticket_in 0 (changed ticket_in t (settle_with x) ss)
rising_changed t x ss r = rising_map ticket_in (λ s. change_if (s.entry.ticket == t) (settle_with x) s) (λ s. stays (s.entry.ticket == t) s) 0 ss r
  where
    stays : (b : Bool) (s : Slot) → (change_if b (settle_with x) s).entry.ticket ≡ s.entry.ticket
    stays true s = refl
    stays false s = refl

told_given : (ss : List Slot) (e : Entry) (x : Settled) (new : List ℕ) → AreRising ticket_in 0 ss → IsWaiting e ss → AreRising itself_of 0 new
    → ((n : ℕ) → find (has_number itself_of n) new ≡ cond (e.ticket == n) (Some e.ticket) (find (has_number itself_of n) (map ticket_in (filter is_ready ss))))
    → new ≡ map ticket_in (filter is_ready (changed ticket_in e.ticket (settle_with x) ss))
told_given ss e x new r w rising put =
    same_rising itself_of 0 0 new _ rising (rising_tickets (changed ticket_in e.ticket (settle_with x) ss) (rising_changed e.ticket x ss r))
    (λ n. put n ∙ ap (λ o. cond (e.ticket == n) (Some e.ticket) o) (find_ticket n ss r) ∙ either n (e.ticket == n) refl
    ∙ sym (find_ticket n (changed ticket_in e.ticket (settle_with x) ss) (rising_changed e.ticket x ss r)
    ∙ ap (λ o. option_map ticket_in (kept_if ticket_in is_ready o)) (find_changed ticket_in (settle_with x) (λ s. refl) n e.ticket ss)))
  where
    unlike : (n : ℕ) (o : Option Slot) → o ≡ find (has_ticket n) ss → (e.ticket == n) ≡ false
        → option_map ticket_in (kept_if ticket_in is_ready o) ≡ option_map ticket_in (kept_if ticket_in is_ready (option_map (λ s. change_if (s.entry.ticket == e.ticket) (settle_with x) s) o))
    unlike n None f h = refl
    unlike n (Some s) f h =
        let apart : (s.entry.ticket == e.ticket) ≡ false = ap (λ m. m == e.ticket) (its_number ticket_in n s ss (sym f)) ∙ flip n e.ticket h in
        ap (λ b. option_map ticket_in (kept_if ticket_in is_ready (Some (change_if b (settle_with x) s)))) (sym apart)

    either : (n : ℕ) (b : Bool) → (e.ticket == n) ≡ b
        → cond b (Some e.ticket) (option_map ticket_in (kept_if ticket_in is_ready (find (has_ticket n) ss)))
        ≡ option_map ticket_in (kept_if ticket_in is_ready (option_map (λ s. change_if (s.entry.ticket == e.ticket) (settle_with x) s) (find (has_ticket n) ss)))
    either n true h =
        sym (ap (λ m. option_map ticket_in (kept_if ticket_in is_ready (option_map (λ s. change_if (s.entry.ticket == e.ticket) (settle_with x) s) (find (has_ticket m) ss)))) (sym (same e.ticket n h))
        ∙ ap (λ o. option_map ticket_in (kept_if ticket_in is_ready (option_map (λ s. change_if (s.entry.ticket == e.ticket) (settle_with x) s) o))) w
        ∙ ap (λ b. option_map ticket_in (kept_if ticket_in is_ready (Some (change_if b (settle_with x) (record { entry = e; settled = None }))))) (itself e.ticket))
    either n false h = unlike n (find (has_ticket n) ss) refl h

-- at most as many pass as there are
pub few_pass : (p : Slot → Bool) (slots now : List Slot) (n m : ℕ) → slots ≡ now → n ≡ length slots → n < m → length (filter p now) < m
few_pass p slots now n m v e h = let le = at_most now in omega (arith, le, ap length v, e, h)
  where
    at_most : (ss : List Slot) → length (filter p ss) ≤ length ss
    at_most [] = omega arith
    at_most (s ∷ ss) = most_by (p s) s (filter p ss) ss (at_most ss)
      where
        most_by : (b : Bool) (s : Slot) (xs ys : List Slot) → length xs ≤ length ys → length (cond b (s ∷ xs) xs) ≤ suc (length ys)
        most_by true s xs ys h = omega (arith, h)
        most_by false s xs ys h = omega (arith, h)

pub found_above : (low : ℕ) (e : Entry) (ss : List Slot) → AreRising ticket_in low ss → IsWaiting e ss → low < e.ticket
found_above low e ss r w = by_order (nat_lt low e.ticket) refl
  where
    by_order : (b : Bool) → nat_lt low e.ticket ≡ b → low < e.ticket
    by_order true h = grind (arith, nat_tests, h)
    by_order false h = absurd (none-some (record { entry = e; settled = None }) (sym (none_up_to ticket_in e.ticket low ss (grind (arith, nat_tests, h)) r) ∙ w))

-- ---- the steps

module _ (slots : List Slot) (wants times : List OrderKey) (ready : List ℕ) (memory : ℕ) (b : IsBook slots wants times ready memory) where
  -- a request waits
  pub book_pushed : (e : Entry) (new later : List OrderKey) (told : List ℕ) (more : ℕ) → 0 < e.ticket → AreBelow e.ticket slots
      → Adds (want_at (record { entry = e; settled = None })) wants new → Adds (time_at (record { entry = e; settled = None })) times later
      → told ≡ ready → length told + (length wants + 1) ≤ more → IsBook (slots ++ record { entry = e; settled = None } ∷ []) new later told more
  book_pushed e new later told more first newest added timed same_told room =
      let s : Slot = record { entry = e; settled = None } in
      let below = under e.ticket slots newest in
      let wanted = order_pushed ticket_in is_waiting want_at (λ z. refl) slots wants new s b.wanted below refl added in
      record {
        rising = rising_pushed ticket_in 0 s slots first b.rising below;
        wanted = wanted;
        timed = order_pushed ticket_in is_waiting time_at (λ z. refl) slots times later s b.timed below refl timed;
        told = same_told ∙ b.told ∙ sym (told_pushed slots s refl);
        memory = let one = added.count in at_most (stands wants (want_at s)) (length wants) (length new) (length told) more one room;
      }
    where
      at_most : (c : Bool) (n m k more : ℕ) → m ≡ n + cond c 0 1 → k + (n + 1) ≤ more → m + k ≤ more
      at_most true n m k more h le = omega (arith, h, le)
      at_most false n m k more h le = omega (arith, h, le)

  -- it doesn't, since memory is missing
  pub book_undone : (e : Entry) (new back gone : List OrderKey) (told : List ℕ) (more : ℕ) → AreBelow e.ticket slots
      → Adds (want_at (record { entry = e; settled = None })) wants new → Removes (want_at (record { entry = e; settled = None })) new back
      → IsOrder ticket_in is_waiting time_at slots gone
      → told ≡ ready → memory ≤ more → IsBook slots back gone told more
  book_undone e new back gone told more newest added left timed same_told room =
      let s : Slot = record { entry = e; settled = None } in
      let wanted = order_undone ticket_in is_waiting want_at (λ z. refl) slots wants new back s b.wanted (under e.ticket slots newest) added left in
      record {
        rising = b.rising;
        wanted = wanted;
        timed = timed;
        told = same_told ∙ b.told;
        memory = let m = b.memory in omega (arith, m, room, ap length same_told, wanted.count, b.wanted.count);
      }

  pub times_undone : (e : Entry) (new back : List OrderKey) → AreBelow e.ticket slots
      → Adds (time_at (record { entry = e; settled = None })) times new → Removes (time_at (record { entry = e; settled = None })) new back → IsOrder ticket_in is_waiting time_at slots back
  times_undone e new back newest added left =
      order_undone ticket_in is_waiting time_at (λ z. refl) slots times new back (record { entry = e; settled = None }) b.timed (under e.ticket slots newest) added left

  -- a request gets its reply
  pub book_given : (e : Entry) (x : Settled) (new later : List OrderKey) (told : List ℕ) (more : ℕ) (ss : List Slot) → IsWaiting e slots
      → Removes (want_at (record { entry = e; settled = None })) wants new → Removes (time_at (record { entry = e; settled = None })) times later
      → ((n : ℕ) → find (has_number itself_of n) told ≡ cond (e.ticket == n) (Some e.ticket) (find (has_number itself_of n) ready)) → AreRising itself_of 0 told
      → length told ≤ length ready + 1 → memory ≤ more → ss ≡ changed ticket_in e.ticket (settle_with x) slots → IsBook ss new later told more
  book_given e x new later told more ss w gone past put rising one room is =
      let s : Slot = record { entry = e; settled = None } in
      subst (λ zs. IsBook zs new later told more) (sym is) (record {
        rising = rising_changed e.ticket x slots b.rising;
        wanted = order_changed ticket_in is_waiting want_at (λ z. refl) slots wants new s b.wanted (settle_with x) (λ z. refl) b.rising w refl refl gone;
        timed = order_changed ticket_in is_waiting time_at (λ z. refl) slots times later s b.timed (settle_with x) (λ z. refl) b.rising w refl refl past;
        told = told_given slots e x told b.rising w rising (λ n. put n ∙ ap (λ ns. cond (e.ticket == n) (Some e.ticket) (find (has_number itself_of n) ns)) b.told);
        memory =
            let less : length new + 1 ≡ length wants = ap (λ c. length new + cond c 1 0) (sym (in_place ticket_in is_waiting want_at (λ z. refl) slots wants s b.wanted w)) ∙ gone.count in
            let m = b.memory in omega (arith, less, m, room, one);
      })

  -- there is memory for one more reply while one waits
  pub some_room : (e : Entry) → IsWaiting e slots → length ready < memory
  some_room e w =
      let s : Slot = record { entry = e; settled = None } in
      let there : stands wants (want_at s) ≡ true = in_place ticket_in is_waiting want_at (λ z. refl) slots wants s b.wanted w in
      let m = b.memory in omega (arith, m, taken_one wants (want_at s) there)
    where
      taken_one : (ps : List OrderKey) (p : OrderKey) → stands ps p ≡ true → 0 < length ps
      taken_one [] p h = absurd (true≢false (sym h))
      taken_one (q ∷ ps) p h = omega arith

  -- one that has it is taken
  pub book_taken : (t : ℕ) (told : List ℕ) (more : ℕ) (ss : List Slot) → is_passed is_ready (find (has_ticket t) slots) ≡ true
      → told ≡ all_but itself_of t ready → memory ≤ more → ss ≡ without t slots → IsBook ss wants times told more
  book_taken t told more ss there put room is = subst (λ zs. IsBook zs wants times told more) (sym is) (by_slot (find (has_ticket t) slots) refl there put room)
    where
      by_slot : (o : Option Slot) → o ≡ find (has_ticket t) slots → is_passed is_ready o ≡ true → told ≡ all_but itself_of t ready → memory ≤ more → IsBook (without t slots) wants times told more
      by_slot None f h put room = absurd (true≢false (sym h))
      by_slot (Some s) f h put room =
          let its : s.entry.ticket ≡ t = its_number ticket_in t s slots (sym f) in
          let here : find (has_ticket s.entry.ticket) slots ≡ Some s = ap (λ n. find (has_ticket n) slots) its ∙ sym f in
          record {
            rising = rising_but ticket_in t 0 slots b.rising;
            wanted = subst (λ n. IsOrder ticket_in is_waiting want_at (without n slots) wants) its (order_stays ticket_in is_waiting want_at (λ z. refl) slots wants s b.wanted b.rising here (not_both s h));
            timed = subst (λ n. IsOrder ticket_in is_waiting time_at (without n slots) times) its (order_stays ticket_in is_waiting time_at (λ z. refl) slots times s b.timed b.rising here (not_both s h));
            told = put ∙ ap (all_but itself_of t) b.told ∙ told_left slots t b.rising;
            memory = let m = b.memory in omega (arith, m, room, ap length put, shorter t ready);
          }

  -- one leaves, whether it waits or not
  pub book_left : (e : Entry) (s : Slot) (new later : List OrderKey) (told : List ℕ) (more : ℕ) (ss : List Slot) → find (has_ticket e.ticket) slots ≡ Some s → s.entry ≡ e
      → Removes (want_at (record { entry = e; settled = None })) wants new → Removes (time_at (record { entry = e; settled = None })) times later
      → told ≡ all_but itself_of e.ticket ready → memory ≤ more → ss ≡ without e.ticket slots → IsBook ss new later told more
  book_left e s new later told more ss f own gone past put room is =
      let here : find (has_ticket s.entry.ticket) slots ≡ Some s = ap (λ (d : Entry). find (has_ticket d.ticket) slots) own ∙ f in
      let wanted = order_left ticket_in is_waiting want_at (λ z. refl) slots wants new s b.wanted b.rising here (subst (λ (d : Entry). Removes (want_at (record { entry = d; settled = None })) wants new) (sym own) gone) in
      subst (λ zs. IsBook zs new later told more) (sym is) (record {
        rising = rising_but ticket_in e.ticket 0 slots b.rising;
        wanted = subst (λ (d : Entry). IsOrder ticket_in is_waiting want_at (without d.ticket slots) new) own wanted;
        timed = subst (λ (d : Entry). IsOrder ticket_in is_waiting time_at (without d.ticket slots) later) own
            (order_left ticket_in is_waiting time_at (λ z. refl) slots times later s b.timed b.rising here (subst (λ (d : Entry). Removes (time_at (record { entry = d; settled = None })) times later) (sym own) past));
        told = put ∙ ap (all_but itself_of e.ticket) b.told ∙ told_left slots e.ticket b.rising;
        memory = let m = b.memory in at_most (stands wants (want_at (record { entry = e; settled = None }))) (length new) (length wants) (length told) (length ready) memory more gone.count (ap length put) (shorter e.ticket ready) m room;
      })
    where
      at_most : (c : Bool) (n m k j memory more : ℕ) → n + cond c 1 0 ≡ m → k ≡ length (all_but itself_of e.ticket ready) → length (all_but itself_of e.ticket ready) ≤ j → m + j ≤ memory → memory ≤ more → n + k ≤ more
      at_most true n m k j memory more h e le u v = omega (arith, h, e, le, u, v)
      at_most false n m k j memory more h e le u v = omega (arith, h, e, le, u, v)

  pub book_forgotten : (e : Entry) (new later : List OrderKey) (told : List ℕ) (more : ℕ) (ss : List Slot) → found e.ticket slots ≡ Some e
      → Removes (want_at (record { entry = e; settled = None })) wants new → Removes (time_at (record { entry = e; settled = None })) times later
      → told ≡ all_but itself_of e.ticket ready → memory ≤ more → ss ≡ without e.ticket slots → IsBook ss new later told more
  book_forgotten e new later told more ss f gone past put room is =
      let s = slot_of e.ticket e slots (sym f) in book_left e s.0 new later told more ss s.1 s.2 gone past put room is
