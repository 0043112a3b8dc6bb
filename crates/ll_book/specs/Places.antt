-- Places, sets of places, and the orders that elements stand in.
use Rattle.std.specs.Prelude.{◌≡◌, ℕ, ◌+◌, ◌&&◌, List, Bool, true, false, cond, Option, None, Some, find, filter, length}
use Rattle.std.specs.List.{list_any}
use Rattle.std.specs.Ordering.{nat_cmp, ordering_then, is_gt}
use Rattle.std.specs.declared.cmp.Ordering.{Ordering}
use Rattle.std.specs.declared.cmp.Ordering.TheVariants.{Less}
use Rattle.std.specs.BTreeMap.{is_at}
use Rattle.ll_book.specs.Numbers.{has_number}
use Rattle.ll_book.specs.declared.place.OrderKey.{OrderKey}

abbrev pub place_cmp : OrderKey → OrderKey → Ordering
place_cmp a b = ordering_then (nat_cmp a.group b.group) (ordering_then (nat_cmp a.kind b.kind)
    (ordering_then (nat_cmp a.rank b.rank) (ordering_then (nat_cmp a.subrank b.subrank) (nat_cmp a.number b.number))))

abbrev pub IsBefore : OrderKey → OrderKey → Type 0
IsBefore a b = place_cmp a b ≡ Less

-- whether two places are the same
abbrev pub is_place : OrderKey → OrderKey → Bool
is_place p q = is_at (place_cmp p) q

-- whether the place `p` is in the order
abbrev pub stands : List OrderKey → OrderKey → Bool
stands places p = list_any (is_place p) places

-- `place` is in the new order, whether it was in the old one or not, and all else is the same
pub record Adds (place : OrderKey) (old new : List OrderKey) : Type 0 where
  pub told : (p : OrderKey) → stands new p ≡ cond (is_place place p) true (stands old p)
  pub count : length new ≡ length old + cond (stands old place) 0 1

-- `place` isn't in the new order, and all else is the same
pub record Removes (place : OrderKey) (old new : List OrderKey) : Type 0 where
  pub told : (p : OrderKey) → stands new p ≡ cond (is_place place p) false (stands old p)
  pub count : length new + cond (stands old place) 1 0 ≡ length old

-- `next` is the first place after `place` that is in the order
pub record IsNext (place next : OrderKey) (places : List OrderKey) : Type 0 where
  pub after : IsBefore place next
  pub there : stands places next ≡ true
  pub first : (p : OrderKey) → IsBefore place p → stands places p ≡ true → is_gt (place_cmp next p) ≡ false

module _ {V : Type 0} (number : V → ℕ) (is_in : V → Bool) (place : V → OrderKey) where
  -- whether an element is found, belongs to the order and has the place `p`
  abbrev pub stands_at : OrderKey → Option V → Bool
  stands_at p None = false
  stands_at p (Some v) = is_in v && is_place (place v) p

  -- the places are those of the elements that belong to the order
  pub record IsOrder (vs : List V) (places : List OrderKey) : Type 0 where
    pub told : (p : OrderKey) → stands places p ≡ stands_at p (find (has_number number p.number) vs)
    pub count : length places ≡ length (filter is_in vs)
