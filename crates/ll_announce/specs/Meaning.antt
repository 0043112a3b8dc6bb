-- The value of names, which contracts speak of.
use Rattle.ll_announce.specs.Messages.{Names}
use Rattle.ll_announce.specs.declared.names.Names.{Names as Given}

abbrev pub named : Given → Names
named names = record { channel = names.channel.now; rendition = names.rendition.now }
