-- Boxes one after another, moved.
use Rattle.std.proofs.Common.{◌≡◌, ◌||◌, List, [], ◌++◌, Bool, true, false, ℕ, refl, ap, ◌∙◌, if◌then◌else◌}
use Rattle.ll_mp4.specs.declared.kind.Kind.TheVariants.{Moof, Sidx, Mfra, Prft, Emsg}
use Rattle.ll_mp4.specs.declared.track.TimeScale.{TimeScale}
use Rattle.ll_shift.specs.Laws.{OneAfterAnother, OthersStand, may_change}
use Rattle.ll_shift.specs.Moved.{is, moved, moved_box, moved_emsg, moved_moof, moved_prft}
use Rattle.ll_shift.specs.Pieces.{Box, whole}
use Rattle.ll_shift.specs.declared.shift.Shift.{Shift}
use Rattle.ll_shift.proofs.AppendLemmas.{each_append, each_front}

pub one_after_another : OneAfterAnother
one_after_another shift scales before after whole_before = each_append (moved_box shift scales) before after whole_before

-- a box that can't change is none of those that are moved or left out
last-case : (m p e s f : Bool) (moof prft emsg other : List ℕ) → (m || p || e || s || f) ≡ false
    → (if s || f then [] else if m then moof else if p then prft else if e then emsg else other) ≡ other
last-case false false false false false moof prft emsg other h = refl
last-case true p e s f moof prft emsg other h = absurd (cc)
last-case false true e s f moof prft emsg other h = absurd (cc)
last-case false false true s f moof prft emsg other h = absurd (cc)
last-case false false false true f moof prft emsg other h = absurd (cc)
last-case false false false false true moof prft emsg other h = absurd (cc)

stays : (shift : Shift) (scales : List TimeScale) (b : Box) → may_change b ≡ false → moved_box shift scales b ≡ whole b
stays shift scales b h =
    last-case (is Moof b) (is Prft b) (is Emsg b) (is Sidx b) (is Mfra b) (moved_moof shift scales b) (moved_prft shift scales b) (moved_emsg shift b) (whole b) h

pub others_stand : OthersStand
others_stand shift scales before other after b whole_before e h =
    one_after_another shift scales before (other ++ after) whole_before
    ∙ ap (λ l. moved shift scales before ++ l) (each_front (moved_box shift scales) other after b e (stays shift scales b h))
