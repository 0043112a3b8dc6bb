-- For private contracts: the result of reading a line.
use Rattle.std.specs.Prelude.{◌≡◌, List, Option, None, Result, Ok, Err, IsSome}
use Rattle.ll_settings.specs.Settings.{Configuration}
use Rattle.ll_script.specs.Lines.{AreRead}
use Rattle.ll_script.specs.declared.act.Act.{Act}
use Rattle.ll_script.specs.declared.act.Acts.{Acts}
use Rattle.ll_script.specs.declared.reading.LineFault.{LineFault}
use Rattle.ll_script.specs.declared.reading.LineFault.TheVariants as fault

-- The result of reading a line that means `meant`: these acts, except that an item or request may be out of memory; `BadLine` if it means
-- nothing in this place; `Memory` if any other line is out of memory.
abbrev pub IsRead : List Configuration → Option (List Act) → Result Acts LineFault → Type 0
IsRead channels meant (Ok acts) = AreRead channels meant acts
IsRead channels meant (Err fault.BadLine) = meant ≡ None
IsRead channels meant (Err fault.Memory) = IsSome meant
