-- The parts of a turn and of the rooms' answers: their text, and what of it is sent on each connection.
use Rattle.std.proofs.Common.{◌≡◌, ℕ, ◌==◌, List, [], ◌∷◌, ◌++◌, Bool, true, false, refl, ap, ap₂, ◌∙◌, map, append-nil}
use Rattle.std.specs.Prelude.{flat_map, if◌then◌else◌}
use Rattle.std.specs.List.{concat}
use Rattle.std.proofs.lemmas.Grind.{flat_map-append}
use Rattle.ll_connection.specs.Turn.{shut_text}
use Rattle.ll_replay.specs.Script.{spelled}
use Rattle.ll_script.specs.Answers.{sent_line}
use Rattle.ll_script_rooms.specs.declared.answer.ActAnswer as answer
use Rattle.ll_script_laws.specs.Talks.{Part, Said, Sent, Shut, part_text, sent_by}

-- the answers of a turn, and whether the connection has shut
abbrev shut_parts : Bool → ℕ → List Part
shut_parts true n = Shut n ∷ []
shut_parts false n = []

abbrev pub turn_parts : ℕ → List (List ℕ) → Bool → List Part
turn_parts n answers shut = map (λ bytes. Sent n bytes) answers ++ shut_parts shut n

shut-text : (shut : Bool) (n : ℕ) → flat_map part_text (shut_parts shut n) ≡ shut_text shut n
shut-text true n = append-nil (part_text (Shut n))
shut-text false n = refl

sent-text : (n : ℕ) (answers : List (List ℕ)) → flat_map part_text (map (λ bytes. Sent n bytes) answers) ≡ flat_map (sent_line n) answers
sent-text n [] = refl
sent-text n (a ∷ answers) = ap (λ t. sent_line n a ++ t) (sent-text n answers)

pub turn-text : (n : ℕ) (answers : List (List ℕ)) (shut : Bool) → flat_map part_text (turn_parts n answers shut) ≡ flat_map (sent_line n) answers ++ shut_text shut n
turn-text n answers shut =
    flat_map-append part_text (map (λ bytes. Sent n bytes) answers) (shut_parts shut n) ∙ ap₂ (λ x y. x ++ y) (sent-text n answers) (shut-text shut n)

shut-sent : (m n : ℕ) (shut : Bool) → flat_map (sent_by m) (shut_parts shut n) ≡ []
shut-sent m n true = refl
shut-sent m n false = refl

own-sent : (m n : ℕ) (b : Bool) (answers : List (List ℕ)) → (n == m) ≡ b → flat_map (sent_by m) (map (λ bytes. Sent n bytes) answers) ≡ (if b then concat answers else [])
own-sent m n true [] e = refl
own-sent m n false [] e = refl
own-sent m n true (a ∷ answers) e = ap₂ (λ x y. x ++ y) (ap (λ b. if b then a else []) e) (own-sent m n true answers e)
own-sent m n false (a ∷ answers) e = ap₂ (λ x y. x ++ y) (ap (λ b. if b then a else []) e) (own-sent m n false answers e)

pub turn-sent : (m n : ℕ) (b : Bool) (answers : List (List ℕ)) (shut : Bool) → (n == m) ≡ b
    → flat_map (sent_by m) (turn_parts n answers shut) ≡ (if b then concat answers else [])
turn-sent m n b answers shut e =
    flat_map-append (sent_by m) (map (λ bytes. Sent n bytes) answers) (shut_parts shut n)
    ∙ ap₂ (λ x y. x ++ y) (own-sent m n b answers e) (shut-sent m n shut) ∙ append-nil (if b then concat answers else [])

pub said-text : (list : List answer.ActAnswer) → flat_map part_text (map (λ a. Said a) list) ≡ flat_map spelled list
said-text [] = refl
said-text (a ∷ list) = ap (λ t. spelled a ++ t) (said-text list)

pub said-sent : (m : ℕ) (list : List answer.ActAnswer) → flat_map (sent_by m) (map (λ a. Said a) list) ≡ []
said-sent m [] = refl
said-sent m (a ∷ list) = said-sent m list
