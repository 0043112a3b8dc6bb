-- The version of the program, and the kit that it is proved with.
use Rattle.std.specs.Prelude.{ℕ, List, codes}

abbrev pub version_text : List ℕ
version_text = codes "llhls 0.2.0\nproved with rattle-kit-13b logic dac8208d650f15bf, or a later kit of the same logic\n"
