-- What is written and what is left are all codecs.
use Rattle.std.proofs.Common.{◌≡◌, ◌++◌, length, string_bytes}
use Rattle.ll_variants.specs.Lines.{further}
use Rattle.ll_variants.proofs.codecs.push_further.Given as goal

abbrev pub invariant-codecs : goal.invariant-codecs
invariant-codecs l = string_bytes l.text ++ further l.left ≡ string_bytes l.initial.text ++ further l.fn.codecs

abbrev pub decreases-codecs : goal.decreases-codecs
decreases-codecs l = length l.left
