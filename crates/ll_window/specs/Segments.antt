-- The parts and Media Segments of one rendition, from the whole list of its items (sections 4.4.4 and 4.4.4.9).
use Rattle.std.specs.Prelude.{ℕ, List, [], ◌∷◌, ◌++◌, Bool, true, false, ◌==◌, filter, sum_by}
use Rattle.ll_item.specs.Items.{rendition_of}
use Rattle.ll_item.specs.declared.item.Item.{Item}
use Rattle.ll_item.specs.declared.part.Part.{Part}
use Rattle.ll_item.specs.Told.{told}

-- the items of the rendition with this index
abbrev pub own : ℕ → List Item → List Item
own rendition items = filter (λ i. rendition_of i == rendition) items

-- the parts among the items of one rendition
abbrev pub parts : List Item → List Part
parts items = (told items).parts

-- whether the rendition has ended (rule 14)
abbrev pub ended : List Item → Bool
ended items = (told items).ended

-- segments that a part finishes, and the parts after the last of them
pub record Split : Type 0 where
  pub finished : List (List Part)
  pub unfinished : List Part

-- the split of one part more, before all others; it finishes a segment or doesn't
abbrev pub put_by : Bool → Part → List (List Part) → List Part → Split
put_by true p segments rest = record { finished = (p ∷ []) ∷ segments; unfinished = rest }
put_by false p [] rest = record { finished = []; unfinished = p ∷ rest }
put_by false p (segment ∷ segments) rest = record { finished = (p ∷ segment) ∷ segments; unfinished = rest }

-- parts up to and with one that finishes are a segment (rule 3)
abbrev pub split : List Part → Split
split [] = record { finished = []; unfinished = [] }
split (p ∷ ps) = put_by p.finish p (split ps).finished (split ps).unfinished

-- these parts as a segment, if there are any
abbrev pub closed : List Part → List (List Part)
closed [] = []
closed (p ∷ ps) = (p ∷ ps) ∷ []

abbrev pub finished_by : Bool → Split → List (List Part)
finished_by true s = s.finished ++ closed s.unfinished
finished_by false s = s.finished

abbrev pub unfinished_by : Bool → Split → List Part
unfinished_by true s = []
unfinished_by false s = s.unfinished

-- the finished segments; the end of the rendition finishes the open one (rule 5)
abbrev pub segments : List Item → List (List Part)
segments items = finished_by (ended items) (split (parts items))

-- the parts of the open segment (rule 5)
abbrev pub open_segment : List Item → List Part
open_segment items = unfinished_by (ended items) (split (parts items))

-- the duration of these parts together, in microseconds (rule 3)
abbrev pub duration : List Part → ℕ
duration ps = sum_by (λ p. p.duration) ps
