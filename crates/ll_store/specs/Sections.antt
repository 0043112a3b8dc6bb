-- Media Initialization Sections: the bytes that were announced last for each map number (EXT-X-MAP, section 4.4.4.5).
use Rattle.std.specs.Prelude.{ℕ, List, [], ◌∷◌, ◌++◌, ◌==◌, not, Option, filter, find, nat_le, option_map}
use Rattle.ll_settings.specs.Settings.{Configuration}
use Rattle.ll_item.specs.declared.item.Item.{Item}
use Rattle.ll_item.specs.declared.item.Item.TheVariants as item
use Rattle.ll_store.specs.declared.segment.Section.{Section}
use Rattle.ll_window.specs.Compact.{Compact, compact, first_map, map_now}

-- one more section, which replaces an earlier one with the same map number
abbrev pub with_section : ℕ → List ℕ → List Section → List Section
with_section number bytes sections = filter (λ (s : Section). not (s.number == number)) sections ++ (record { number = number; bytes = bytes }) ∷ []

-- the sections after one more item; `k` is what is kept before it (rule 12)
abbrev pub and_section : Compact → List Section → Item → List Section
and_section k sections (item.Init rendition media) = with_section (map_now k) media sections
and_section k sections (item.Part part) = sections
and_section k sections (item.Finish rendition) = sections
and_section k sections (item.Break rendition time) = sections
and_section k sections (item.End rendition) = sections
and_section k sections (item.Range rendition id attributes) = sections
and_section k sections (item.Unrange rendition id) = sections

abbrev pub sections_from : Configuration → List Item → List Section → List Item → List Section
sections_from c before sections [] = sections
sections_from c before sections (i ∷ items) = sections_from c (before ++ i ∷ []) (and_section (compact c before) sections i) items

-- all sections that these items of a rendition announce, the last one for each map number
abbrev pub sections : Configuration → List Item → List Section
sections c items = sections_from c [] [] items

-- the sections that are kept: those in force at a segment that a full playlist shows, and that with the map number of one announced now (rule 31)
abbrev pub kept_sections : Compact → List Section → List Section
kept_sections k sections = filter (λ (s : Section). nat_le (first_map k) s.number) sections

-- the bytes of the section with this map number
abbrev pub section_of : ℕ → List Section → Option (List ℕ)
section_of number sections = option_map (λ (s : Section). s.bytes) (find (λ (s : Section). s.number == number) sections)
