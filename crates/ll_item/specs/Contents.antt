-- For private contracts: the bytes of items, as they are read and as they are kept.
use Rattle.std.specs.Prelude.{ℕ, List}
use Rattle.ll_item.specs.Media.{zeros}
use Rattle.ll_item.specs.declared.media.Kept.{Kept}
use Rattle.ll_item.specs.declared.media.Kept.TheVariants as kept
use Rattle.ll_item.specs.declared.media.Offered.{Offered}
use Rattle.ll_item.specs.declared.media.Offered.TheVariants as offered

abbrev pub offered_bytes : Offered → List ℕ
offered_bytes (offered.Bytes bytes) = bytes.now
offered_bytes (offered.Zeros n) = zeros n

abbrev pub kept_bytes : Kept → List ℕ
kept_bytes (kept.Shared bytes) = bytes
kept_bytes (kept.Zeros n) = zeros n
