-- No fault of what is named is one of the record.
use Rattle.ll_multivariant.proofs.written.multivariant.Goals as goal

pub returns-in-Ok-clause-wrong : goal.returns-in-Ok-clause-wrong
returns-in-Ok-clause-wrong c = λ f is other. absurd (c.kept_playlist.ensures.named f is)
