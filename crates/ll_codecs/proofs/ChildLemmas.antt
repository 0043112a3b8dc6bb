-- Which box of some bytes is the first of a type.
use Rattle.std.proofs.Common.{◌≡◌, ℕ, ◌==◌, List, false, Option, Some, None, Result, Ok, Err, refl, ap, sym, ◌∙◌}
use Rattle.ll_mp4.proofs.BoxLemmas.{contents_front, same_number}
use Rattle.ll_mp4.specs.Boxes.{front_of}
use Rattle.ll_mp4.specs.Found.{found, from_inner, inner}
use Rattle.ll_mp4.specs.declared.boxes.FoundBox.{FoundBox}
use Rattle.ll_mp4.specs.declared.fault.StreamFault.{StreamFault}
use Rattle.ll_mp4.specs.declared.fault.StreamFault.TheVariants.{BadBox}
use Rattle.ll_codecs.specs.Children.{child, first_of}

-- the front box is one of the type, or it is another, or there is none
pub child_one : (kind : ℕ) (all rest : List ℕ) (o : Option FoundBox) (f : FoundBox) → child kind all ≡ child kind rest
    → found (Ok o) ≡ inner (front_of rest) → o ≡ Some f → f.kind ≡ kind → child kind all ≡ Ok f.content.now
child_one kind all rest o f same told is e =
    same ∙ ap first_of (contents_front kind rest) ∙ ap (λ i. first_of (from_inner kind i)) (sym told) ∙ ap (λ x. first_of (from_inner kind (found (Ok x)))) is
    ∙ rw (same_number f.kind kind e) refl

pub child_other : (kind : ℕ) (all rest : List ℕ) (o : Option FoundBox) (f : FoundBox) → child kind all ≡ child kind rest
    → found (Ok o) ≡ inner (front_of rest) → o ≡ Some f → (f.kind == kind) ≡ false → child kind all ≡ child kind f.rest.now
child_other kind all rest o f same told is e =
    same ∙ ap first_of (contents_front kind rest) ∙ ap (λ i. first_of (from_inner kind i)) (sym told) ∙ ap (λ x. first_of (from_inner kind (found (Ok x)))) is ∙ rw e refl

pub child_none : (kind : ℕ) (rest : List ℕ) (r : Result (Option FoundBox) StreamFault) → found r ≡ inner (front_of rest) → r ≡ Ok None → child kind rest ≡ Err BadBox
child_none kind rest r told is =
    ap first_of (contents_front kind rest) ∙ ap (λ i. first_of (from_inner kind i)) (sym told) ∙ ap (λ x. first_of (from_inner kind (found x))) is

pub child_torn : (kind : ℕ) (rest : List ℕ) (r : Result (Option FoundBox) StreamFault) (f : StreamFault) → found r ≡ inner (front_of rest) → r ≡ Err f → child kind rest ≡ Err BadBox
child_torn kind rest r f told is =
    ap first_of (contents_front kind rest) ∙ ap (λ i. first_of (from_inner kind i)) (sym told) ∙ ap (λ x. first_of (from_inner kind (found x))) is
