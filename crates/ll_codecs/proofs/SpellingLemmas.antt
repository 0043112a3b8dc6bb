-- What formats write of small numbers.
use Rattle.std.proofs.Common.{◌≡◌, ◌<◌, ◌+◌, ◌-◌, ◌^◌, ℕ, [], ◌∷◌, false}
use Rattle.std.specs.Fmt.{digits, format_spec, padded_integral}
use Rattle.std.proofs.lemmas.Fmt as fmt
use Rattle.std.specs.Prelude.{decimal}
use Rattle.ll_codecs.specs.Spelling.{hex_byte}

pub hex_written : (n : ℕ) → n < 256 → padded_integral (format_spec 32 0 4 2 (2 ^ 64 - 1)) false [] (digits 16 false n) ≡ hex_byte n
hex_written n l = fmt.hex_byte false n l

pub digit_written : (n : ℕ) → n < 10 → decimal n ≡ (48 + n) ∷ []
digit_written n l = fmt.decimal_digit n l
