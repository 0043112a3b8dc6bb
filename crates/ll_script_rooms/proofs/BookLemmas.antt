-- A book of rows stays one if a row comes or leaves, and its orders find the requests that wait.
use Rattle.std.proofs.Common.{◌≡◌, ℕ, ◌<◌, ◌+◌, ◌==◌, ◌&&◌, List, [], ◌∷◌, ◌++◌, Bool, true, false, cond, not, Some, None, option_map, find, map, slice_get, refl, ap, ◌∙◌, sym, subst, arith}
use Rattle.std.proofs.lemmas.List.{map-append}
use Rattle.std.proofs.lemmas.Option.{none-some}
use Rattle.std.specs.BTreeMap.{insert_entry, is_at}
use Rattle.std.specs.Map.{lookup, remove_entry, values_of}
use Rattle.std.specs.Ordering.{nat_cmp}
use Rattle.std.specs.Set.{remove_key}
use Rattle.ll_book.specs.Numbers.{AreKeyed, AreRising, AreUnder, all_but, has_number}
use Rattle.ll_book.specs.Places.{Adds, IsNext, IsOrder, Removes, stands}
use Rattle.ll_book.specs.declared.place.OrderKey.{OrderKey}
use Rattle.ll_book.proofs.Finds.{its_number, none_above}
use Rattle.ll_book.proofs.Keyed.{keyed_left, keyed_pushed, looked_up, pushed, rising, taken_out}
use Rattle.ll_book.proofs.Orders.{order_left, order_pushed, order_undone}
use Rattle.ll_script_rooms.specs.Book.{IsBook, by_owner, by_ticket, every, id_of, kind_of, number_of, wait_in}
use Rattle.ll_script_rooms.specs.Spots.{spot}
use Rattle.ll_script_rooms.specs.Waits.{is_of, is_same, is_under, under, wait_of, without}
use Rattle.ll_script_rooms.specs.declared.owner.Owner.{Owner}
use Rattle.ll_script_rooms.specs.declared.owner.Owner.TheVariants.{Get, Connection}
use Rattle.ll_script_rooms.specs.declared.held_request.HeldRequest.{HeldRequest}
use Rattle.ll_script_rooms.specs.declared.wait.Wait.{Wait}
use Rattle.ll_script_rooms.proofs.Firsts.{first_left, under_left, under_pushed}
use Rattle.ll_script_rooms.proofs.SpotLemmas.{first_of, has_key, is_there, none_of}

-- ---- the rows and their waits

found_by : (q : Wait → Bool) (r : HeldRequest) (rs : List HeldRequest) (b : Bool) → find q (map wait_in rs) ≡ option_map wait_in (find (λ s. q (wait_in s)) rs)
    → cond b (Some (wait_in r)) (find q (map wait_in rs)) ≡ option_map wait_in (cond b (Some r) (find (λ s. q (wait_in s)) rs))
found_by q r rs true h = refl
found_by q r rs false h = h

-- what is found among the waits is found among the rows
find_waits : (q : Wait → Bool) (rs : List HeldRequest) → find q (map wait_in rs) ≡ option_map wait_in (find (λ r. q (wait_in r)) rs)
find_waits q [] = refl
find_waits q (r ∷ rs) = found_by q r rs (q (wait_in r)) (find_waits q rs)

left_by : (q : Wait → Bool) (r : HeldRequest) (rs : List HeldRequest) (b : Bool) → map wait_in (remove_key (λ s. q (wait_in s)) rs) ≡ remove_key q (map wait_in rs)
    → map wait_in (cond b rs (r ∷ remove_key (λ s. q (wait_in s)) rs)) ≡ cond b (map wait_in rs) (wait_in r ∷ remove_key q (map wait_in rs))
left_by q r rs true h = refl
left_by q r rs false h = ap (λ ws. wait_in r ∷ ws) h

-- what leaves the rows leaves their waits
left_waits : (q : Wait → Bool) (rs : List HeldRequest) → map wait_in (remove_key (λ r. q (wait_in r)) rs) ≡ remove_key q (map wait_in rs)
left_waits q [] = refl
left_waits q (r ∷ rs) = left_by q r rs (q (wait_in r)) (left_waits q rs)

kept_by : (q : Wait → Bool) (w : Wait) (ws : List Wait) (b : Bool) → cond b (Some w) (find q ws) ≡ None → (find q ws ≡ None → remove_key q ws ≡ ws)
    → cond b ws (w ∷ remove_key q ws) ≡ w ∷ ws
kept_by q w ws true h ih = absurd (none-some w (sym h))
kept_by q w ws false h ih = ap (λ zs. w ∷ zs) (ih h)

-- if none is found, none leaves
pub none_left : (q : Wait → Bool) (ws : List Wait) → find q ws ≡ None → remove_key q ws ≡ ws
none_left q [] h = refl
none_left q (w ∷ ws) h = kept_by q w ws (q w) h (none_left q ws)

-- the first of the rows
pub first_wait : (e : ℕ × HeldRequest) (rows : List (ℕ × HeldRequest)) → slice_get rows 0 ≡ Some e → slice_get (map wait_in (values_of rows)) 0 ≡ Some (wait_in e.1)
first_wait e [] h = absurd (none-some e h)
first_wait e (f ∷ rows) h = ap (option_map (λ (x : ℕ × HeldRequest). wait_in x.1)) h

same_owner : (a b : Owner) → (kind_of a == kind_of b && id_of a == id_of b) ≡ is_same a b
same_owner (Get a) (Get b) = refl
same_owner (Get a) (Connection b) = refl
same_owner (Connection a) (Get b) = refl
same_owner (Connection a) (Connection b) = refl

abbrev place_of : HeldRequest → ℕ
place_of r = r.parked.channel

abbrev ticket_of : HeldRequest → ℕ
ticket_of r = r.parked.ticket

abbrev owner_kind : HeldRequest → ℕ
owner_kind r = kind_of r.owner

abbrev owner_id : HeldRequest → ℕ
owner_id r = id_of r.owner

module _ (rows : List (ℕ × HeldRequest)) (tickets owners : List OrderKey) (last : ℕ) (book : IsBook rows tickets owners last) where
  abbrev listed : List HeldRequest
  listed = values_of rows

  abbrev waits : List Wait
  waits = map wait_in (values_of rows)

  rise : AreRising number_of 0 listed
  rise = rising number_of 0 rows book.keyed

  -- ---- what the orders find

  -- no place of this ticket is taken: no request waits under it
  pub none_under : (place ticket : ℕ) → ((n : ℕ) → 0 < n → stands tickets (spot place ticket n) ≡ false) → under place ticket waits ≡ None
  none_under place ticket none =
      find_waits (is_under place ticket) listed ∙ ap (option_map wait_in) (none_of number_of place_of ticket_of listed tickets rise book.tickets_told place ticket none)

  number_under : (place ticket n : ℕ) → IsNext (spot place ticket 0) (spot place ticket n) tickets → find (λ r. is_under place ticket (wait_in r)) listed ≡ find (has_number number_of n) listed
  number_under place ticket n next = first_of number_of place_of ticket_of listed tickets rise book.tickets_told place ticket n next

  -- the row of the first number of this ticket is that of the request
  pub row_under : (place ticket n : ℕ) → IsNext (spot place ticket 0) (spot place ticket n) tickets → under place ticket waits ≡ option_map wait_in (lookup (is_at (nat_cmp n)) rows)
  row_under place ticket n next =
      find_waits (is_under place ticket) listed ∙ ap (option_map wait_in) (number_under place ticket n next ∙ sym (looked_up number_of n 0 rows book.keyed))

  -- under the first number there is a row
  pub there_under : (place ticket n : ℕ) → IsNext (spot place ticket 0) (spot place ticket n) tickets → lookup (is_at (nat_cmp n)) rows ≡ None → ⊥
  there_under place ticket n next none =
      is_there number_of place_of ticket_of listed tickets rise book.tickets_told place ticket n next (sym (looked_up number_of n 0 rows book.keyed) ∙ none)

  owned : (owner : Owner) → find (λ r. is_of owner (wait_in r)) listed ≡ find (has_key number_of owner_kind owner_id (kind_of owner) (id_of owner)) listed
  owned owner = ap (λ (q : HeldRequest → Bool). find q listed) (λ i r. sym (same_owner r.owner owner) i)

  -- the same of an owner
  pub none_owned : (owner : Owner) → ((n : ℕ) → 0 < n → stands owners (spot (kind_of owner) (id_of owner) n) ≡ false) → wait_of owner waits ≡ None
  none_owned owner none =
      find_waits (is_of owner) listed ∙ ap (option_map wait_in) (owned owner ∙ none_of number_of owner_kind owner_id listed owners rise book.owners_told (kind_of owner) (id_of owner) none)

  pub row_owned : (owner : Owner) (n : ℕ) → IsNext (spot (kind_of owner) (id_of owner) 0) (spot (kind_of owner) (id_of owner) n) owners
      → wait_of owner waits ≡ option_map wait_in (lookup (is_at (nat_cmp n)) rows)
  row_owned owner n next =
      find_waits (is_of owner) listed ∙ ap (option_map wait_in) (owned owner ∙ first_of number_of owner_kind owner_id listed owners rise book.owners_told (kind_of owner) (id_of owner) n next
      ∙ sym (looked_up number_of n 0 rows book.keyed))

  -- ---- one row leaves

  module _ (n : ℕ) (r : HeldRequest) (found : lookup (is_at (nat_cmp n)) rows ≡ Some r) where
    its : find (has_number number_of n) listed ≡ Some r
    its = sym (looked_up number_of n 0 rows book.keyed) ∙ found

    number_is : r.number ≡ n
    number_is = its_number number_of n r listed its

    pub waits_left : (place ticket : ℕ) → IsNext (spot place ticket 0) (spot place ticket n) tickets
        → map wait_in (values_of (remove_entry (is_at (nat_cmp n)) rows)) ≡ without place ticket waits
    waits_left place ticket next =
        ap (map wait_in) (taken_out number_of n 0 rows book.keyed ∙ ap (λ m. all_but number_of m listed) (sym number_is)
        ∙ sym (first_left number_of (λ s. is_under place ticket (wait_in s)) 0 r listed rise (number_under place ticket n next ∙ its)))
        ∙ left_waits (is_under place ticket) listed

    pub book_left : (left : List (ℕ × HeldRequest)) (tickets_left owners_left : List OrderKey) → left ≡ remove_entry (is_at (nat_cmp n)) rows
        → Removes (by_ticket r) tickets tickets_left → Removes (by_owner r) owners owners_left → IsBook left tickets_left owners_left last
    book_left left tickets_left owners_left e gone gone_too =
        let out : values_of left ≡ all_but number_of r.number listed = ap values_of e ∙ taken_out number_of n 0 rows book.keyed ∙ ap (λ m. all_but number_of m listed) (sym number_is) in
        let own : find (has_number number_of r.number) listed ≡ Some r = ap (λ m. find (has_number number_of m) listed) number_is ∙ its in
        record {
          keyed = subst (AreKeyed number_of 0) (sym e) (keyed_left number_of n 0 rows book.keyed);
          given = subst (AreUnder number_of (last + 1)) (sym out) (under_left number_of (λ s. not (has_number number_of r.number s)) (last + 1) listed book.given);
          tickets_told = subst (λ rs. IsOrder number_of every by_ticket rs tickets_left) (sym out)
              (order_left number_of every by_ticket (λ s. refl) listed tickets tickets_left r book.tickets_told rise own gone);
          owners_told = subst (λ rs. IsOrder number_of every by_owner rs owners_left) (sym out)
              (order_left number_of every by_owner (λ s. refl) listed owners owners_left r book.owners_told rise own gone_too);
        }

  -- ---- one more row

  -- nothing is under the next number
  pub fresh : lookup (is_at (nat_cmp (last + 1))) rows ≡ None
  fresh = looked_up number_of (last + 1) 0 rows book.keyed ∙ none_above number_of (last + 1) listed book.given

  module _ (r : HeldRequest) (next : r.number ≡ last + 1) where
    new : AreUnder number_of r.number listed
    new = subst (λ n. AreUnder number_of n listed) (sym next) book.given

    pub waits_more : (more : List (ℕ × HeldRequest)) → more ≡ insert_entry nat_cmp rows r.number r → map wait_in (values_of more) ≡ waits ++ wait_in r ∷ []
    waits_more more e = ap (map wait_in) (ap values_of e ∙ pushed number_of 0 r rows book.keyed new) ∙ map-append wait_in listed (r ∷ [])

    pub book_more : (more : List (ℕ × HeldRequest)) (tickets_more owners_more : List OrderKey) → more ≡ insert_entry nat_cmp rows r.number r
        → Adds (by_ticket r) tickets tickets_more → Adds (by_owner r) owners owners_more → IsBook more tickets_more owners_more (last + 1)
    book_more more tickets_more owners_more e added added_too =
        let in_all : values_of more ≡ listed ++ r ∷ [] = ap values_of e ∙ pushed number_of 0 r rows book.keyed new in
        record {
          keyed = subst (AreKeyed number_of 0) (sym e) (keyed_pushed number_of 0 r rows (omega (arith, next)) book.keyed new);
          given = subst (AreUnder number_of (last + 1 + 1)) (sym in_all) (under_pushed number_of (last + 1) r listed book.given next);
          tickets_told = subst (λ rs. IsOrder number_of every by_ticket rs tickets_more) (sym in_all)
              (order_pushed number_of every by_ticket (λ s. refl) listed tickets tickets_more r book.tickets_told new refl added);
          owners_told = subst (λ rs. IsOrder number_of every by_owner rs owners_more) (sym in_all)
              (order_pushed number_of every by_owner (λ s. refl) listed owners owners_more r book.owners_told new refl added_too);
        }

    -- a row that was put into both orders, and not into the rows, leaves them again
    pub book_undone : (same : List (ℕ × HeldRequest)) (tickets_more tickets_back owners_more owners_back : List OrderKey) → same ≡ rows
        → Adds (by_ticket r) tickets tickets_more → Removes (by_ticket r) tickets_more tickets_back
        → Adds (by_owner r) owners owners_more → Removes (by_owner r) owners_more owners_back → IsBook same tickets_back owners_back last
    book_undone same tickets_more tickets_back owners_more owners_back e added gone added_too gone_too =
        subst (λ rs. IsBook rs tickets_back owners_back last) (sym e) (record {
          keyed = book.keyed;
          given = book.given;
          tickets_told = order_undone number_of every by_ticket (λ s. refl) listed tickets tickets_more tickets_back r book.tickets_told new added gone;
          owners_told = order_undone number_of every by_owner (λ s. refl) listed owners owners_more owners_back r book.owners_told new added_too gone_too;
        })

    -- or into the one alone
    pub book_ticket_undone : (tickets_more tickets_back same : List OrderKey) → same ≡ owners
        → Adds (by_ticket r) tickets tickets_more → Removes (by_ticket r) tickets_more tickets_back → IsBook rows tickets_back same last
    book_ticket_undone tickets_more tickets_back same e added gone =
        subst (λ ps. IsBook rows tickets_back ps last) (sym e) (record {
          keyed = book.keyed;
          given = book.given;
          tickets_told = order_undone number_of every by_ticket (λ s. refl) listed tickets tickets_more tickets_back r book.tickets_told new added gone;
          owners_told = book.owners_told;
        })
