-- The value of a line, which contracts speak of.
use Rattle.ll_publish.specs.Line as says
use Rattle.ll_publish.specs.declared.line.Line.{Line}
use Rattle.ll_publish.specs.declared.line.Line.TheVariants.{Item, At, Bad, TooLong, MediaTooLong}

abbrev pub meant : Line → says.Line
meant (Item channel item media) = says.Item channel.now item.now media.now
meant (At channel rendition) = says.At channel.now rendition.now
meant Bad = says.Bad
meant TooLong = says.TooLong
meant MediaTooLong = says.MediaTooLong
