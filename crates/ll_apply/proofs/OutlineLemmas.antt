-- What a playlist lacks, by its outline.
use Rattle.std.proofs.Common.{◌≡◌, ℕ, ◌+◌, ◌-◌, ◌≤◌, ◌<◌, Some, None, ap, sym, arith}
use Rattle.ll_line.specs.Playlist.{Playlist}
use Rattle.ll_read.specs.Outline.{outline_of}
use Rattle.ll_read.specs.declared.outline.Outline.{Outline}
use Rattle.ll_apply.specs.Applied.{missing}
use Rattle.ll_apply.proofs.MissingLemmas.{missing-none, missing-past}

-- the numbers asked for begin within the playlist and end within it
pub none-missing : (p : Playlist) (base : Outline) (m n : ℕ) → base ≡ outline_of p → base.sequence ≤ m → m - base.sequence < base.segments
    → n ≤ base.segments - (m - base.sequence) → None ≡ missing p m n
none-missing p base m n is low inside few =
    let s = ap (λ (o : Outline). o.sequence) is in
    let l = ap (λ (o : Outline). o.segments) is in
    sym (missing-none p m n (omega (arith, s, l)) (omega (arith, s, l)))

-- they begin within it and end past it
pub past-missing : (p : Playlist) (base : Outline) (m n : ℕ) → base ≡ outline_of p → base.sequence ≤ m → m - base.sequence < base.segments
    → base.segments - (m - base.sequence) < n → Some (m + (base.segments - (m - base.sequence))) ≡ missing p m n
past-missing p base m n is low inside more =
    let s = ap (λ (o : Outline). o.sequence) is in
    let l = ap (λ (o : Outline). o.segments) is in
    sym (missing-past p (base.segments - (m - base.sequence)) m n (omega (arith, s)) (omega (arith, s, l)) more)
