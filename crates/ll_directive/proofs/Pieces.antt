-- A text that is cut once more than a name has parts.
use Rattle.std.proofs.Common.{◌≡◌, ℕ, ◌==◌, List, [], ◌∷◌, Option, None, refl, ap, ◌∙◌, length, arith}
use Rattle.std.proofs.lemmas.List.Splits.{length-slice_split}
use Rattle.ll_attr.specs.Words.{pieces_at}
use Rattle.ll_directive.specs.Files.{media_by}
use Rattle.ll_directive.specs.Targets.{names_in}
use Rattle.ll_item.specs.declared.what.What.{What}

-- a text has one part at least
some_parts : (c : ℕ) (text : List ℕ) → pieces_at c text ≡ [] → ⊥
some_parts c text e = omega (arith, length-slice_split (λ b. b == c) text, ap length e)

names_by : (channel rendition file rest : List ℕ) (parts : List (List ℕ)) → pieces_at 47 rest ≡ parts → names_in (channel ∷ rendition ∷ file ∷ parts) ≡ None
names_by channel rendition file rest [] e = absurd (some_parts 47 rest e)
names_by channel rendition file rest (part ∷ parts) e = refl

pub more_names : (channel rendition file rest : List ℕ) → names_in (channel ∷ rendition ∷ file ∷ pieces_at 47 rest) ≡ None
more_names channel rendition file rest = names_by channel rendition file rest (pieces_at 47 rest) refl

media_more : (name index ending rest : List ℕ) (parts : List (List ℕ)) → pieces_at 46 rest ≡ parts → media_by (name ∷ index ∷ ending ∷ parts) ≡ None
media_more name index ending rest [] e = absurd (some_parts 46 rest e)
media_more name index ending rest (part ∷ parts) e = refl

pub more_media : (name index ending rest : List ℕ) → media_by (name ∷ index ∷ ending ∷ pieces_at 46 rest) ≡ None
more_media name index ending rest = media_more name index ending rest (pieces_at 46 rest) refl
