-- What is written and what is left are all flags.
use Rattle.std.proofs.Common.{◌≡◌, ◌++◌, length, string_bytes}
use Rattle.ll_codecs.specs.Hevc.{flags_text}
use Rattle.ll_codecs.proofs.hevc.push_flags.Given as goal

abbrev pub invariant-flags : goal.invariant-flags
invariant-flags l = string_bytes l.text ++ flags_text l.left ≡ string_bytes l.initial.text ++ flags_text l.fn.flags

abbrev pub decreases-flags : goal.decreases-flags
decreases-flags l = length l.left
