-- The lines, added one kind after another, are the whole text.
use Rattle.std.proofs.Common.{◌≡◌, ◌∙◌, arith}
use Rattle.std.proofs.lemmas.Grind.{common_steps}
use Rattle.ll_read.proofs.Written.{text_by, written}
use Rattle.ll_read.proofs.playlist.Playlist.write.Goals as goal

pub returns : goal.returns
returns c =
    let lines : c.from_string.result ≡ text_by c.args.self.now = grind (arith, common_steps) in
    lines ∙ written c.args.self.now
