-- The law has a file of its own.
use Rattle.ll_entry.proofs.SettingsBack.{settings_back}
use Rattle.ll_entry.proofs.laws.settings_law.Goals as goal

pub returns : goal.returns
returns c = settings_back
