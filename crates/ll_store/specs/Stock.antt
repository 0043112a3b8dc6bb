-- A store, with whether it has memory for one more item.
use Rattle.std.specs.Prelude.{ℕ, ◌&&◌, ◌^◌, Bool, nat_lt}
use Rattle.ll_store.specs.Media.{StoreValue}

pub record Stock : Type 0 where
  pub kept : StoreValue
  -- whether memory is reserved for what one more item adds
  pub ready : Bool

-- whether there is memory for one more segment, one more part and one more section, and the bytes of the open segment with one more part fit a u64
abbrev pub is_ready : (segments most_segments parts most_parts sections most_sections size : ℕ) → Bool
is_ready segments most_segments parts most_parts sections most_sections size =
    nat_lt segments most_segments && (nat_lt parts most_parts && (nat_lt sections most_sections && nat_lt size (2 ^ 63)))
