use Rattle.std.proofs.Common.{◌≡◌, true, ap, subst, ◌∙◌}
use Rattle.std.specs.Str.{is_utf8}
use Rattle.ll_record.proofs.ChunkText.{chunk-is}
use Rattle.ll_record.proofs.Texts.{is_text}
use Rattle.ll_record.proofs.chunk.Chunk.new.Goals as goal

pub returns-clause-text : goal.returns-clause-text
returns-clause-text c =
    ap (λ text. record { text = text; entries = c.args.entries })
    (c.in_ok-text.ensures ∙ chunk-is c.args.settings.now c.args.at c.args.lines.now c.as_bytes.result.now c.as_str.result.now
    (c.as_bytes.ensures.value ∙ c.in_ok-header.ensures) (c.as_str.ensures.value ∙ c.in_ok-settings.ensures))

pub returns-clause-settings : goal.returns-clause-settings
returns-clause-settings c =
    subst (λ t. is_utf8 t ≡ true) (c.as_str.ensures.value ∙ c.in_ok-settings.ensures) (is_text c.as_str.result.now c.as_str.utf8)
