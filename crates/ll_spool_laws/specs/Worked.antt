-- A worked example: the text of a spool of two items, and what is read of it.
use Rattle.std.specs.Prelude.{◌≡◌, ℕ, List, [], ◌∷◌, ◌++◌, true, Some, Ok, Err, codes, take}
use Rattle.ll_item.specs.declared.item.Item.{Item}
use Rattle.ll_item.specs.declared.item.Item.TheVariants as item
use Rattle.ll_settings.specs.Settings.{Configuration}
use Rattle.ll_spool.specs.Spooled.{spool_in, spool_text}

-- one rendition, a target duration of 4 s and a part target of 1 s
abbrev pub one_rendition : Configuration
one_rendition = record {
  channel = codes "cam";
  target = 4;
  part_target = 1000000;
  skip = 24;
  window = 36;
  renditions = codes "hi" ∷ [];
  first = 0;
  start = 0;
}

-- a part of two bytes, and a break that sets the clock to the fifth second
abbrev pub two_items : List Item
two_items =
    item.Part (record { rendition = 0; duration = 500000; independent = true; finish = true; media = 1 ∷ 2 ∷ [] })
    ∷ item.Break 0 (Some 5000) ∷ []

-- the same with zeros in place of the bytes
abbrev pub two_blank : List Item
two_blank =
    item.Part (record { rendition = 0; duration = 500000; independent = true; finish = true; media = 0 ∷ 0 ∷ [] })
    ∷ item.Break 0 (Some 5000) ∷ []

abbrev pub first_line : List ℕ
first_line = codes "channel cam target=4 part=1000000 skip=24 window=36 renditions=hi first=0 start=0\n"

pub record WorkedSpool : Type 0 where
  pub text : spool_text one_rendition two_items ≡ first_line ++ codes "1 part hi 500000 if 2\n2 break hi 5000\n"
  pub read : spool_in one_rendition (first_line ++ codes "1 part hi 500000 if 2\n2 break hi 5000\n") ≡ Ok two_blank
  -- the end of the second line is missing
  pub cut : spool_in one_rendition (first_line ++ codes "1 part hi 500000 if 2\n2 break hi 5000") ≡ Ok (take 1 two_blank)
  -- the settings line isn't whole
  pub nothing : spool_in one_rendition (codes "channel cam target=4 part=1000000") ≡ Ok []
  -- the third line has the wrong number
  pub number : spool_in one_rendition (first_line ++ codes "1 part hi 500000 if 2\n3 break hi 5000\n") ≡ Err 3
  -- other settings
  pub settings : spool_in one_rendition (codes "channel cam target=6\n1 part hi 500000 if 2\n") ≡ Err 1
