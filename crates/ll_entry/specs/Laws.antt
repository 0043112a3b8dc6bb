-- What is written of an entry is read again.
use Rattle.std.specs.Prelude.{◌≡◌, None, Ok, true, false, bytes_eq}
use Rattle.ll_format.specs.Words.{is_one_line}
use Rattle.ll_settings.specs.Settings.{Configuration, limit_broken}
use Rattle.ll_entry.specs.Entries.{entry_in}
use Rattle.ll_entry.specs.Blank.{blank_entry}
use Rattle.ll_entry.specs.Lines.{IsSpelled, entry_line}
use Rattle.ll_entry.specs.Frame.{last_line}
use Rattle.ll_entry.specs.declared.entry.Recorded.{Recorded}
use Rattle.ll_entry.specs.declared.version.Version.TheVariants.{Two}

-- the line of an entry is read as that entry in the format that is written, with zeros in place of bytes, is one line, and isn't the last one of a
-- chunk
abbrev pub EntryLaw : Type 0
EntryLaw = (c : Configuration) (entry : Recorded) → limit_broken c ≡ None → IsSpelled c entry
    → (entry_in Two c (entry_line c entry) ≡ Ok (blank_entry entry)) × (is_one_line (entry_line c entry) ≡ true) × (bytes_eq (entry_line c entry) last_line ≡ false)
