-- Each type's name.
use Rattle.std.proofs.Common.{rules}
use Rattle.ll_mp4.proofs.kind.Kind.name.Goals as goal

pub returns-in-Moov : goal.returns-in-Moov
returns-in-Moov c = search rules

pub returns-in-Trak : goal.returns-in-Trak
returns-in-Trak c = search rules

pub returns-in-Tkhd : goal.returns-in-Tkhd
returns-in-Tkhd c = search rules

pub returns-in-Mdia : goal.returns-in-Mdia
returns-in-Mdia c = search rules

pub returns-in-Mdhd : goal.returns-in-Mdhd
returns-in-Mdhd c = search rules

pub returns-in-Mvex : goal.returns-in-Mvex
returns-in-Mvex c = search rules

pub returns-in-Trex : goal.returns-in-Trex
returns-in-Trex c = search rules

pub returns-in-Moof : goal.returns-in-Moof
returns-in-Moof c = search rules

pub returns-in-Traf : goal.returns-in-Traf
returns-in-Traf c = search rules

pub returns-in-Tfhd : goal.returns-in-Tfhd
returns-in-Tfhd c = search rules

pub returns-in-Trun : goal.returns-in-Trun
returns-in-Trun c = search rules

pub returns-in-Mdat : goal.returns-in-Mdat
returns-in-Mdat c = search rules

pub returns-in-Hdlr : goal.returns-in-Hdlr
returns-in-Hdlr c = search rules

pub returns-in-Tfdt : goal.returns-in-Tfdt
returns-in-Tfdt c = search rules

pub returns-in-Sidx : goal.returns-in-Sidx
returns-in-Sidx c = search rules

pub returns-in-Mfra : goal.returns-in-Mfra
returns-in-Mfra c = search rules

pub returns-in-Prft : goal.returns-in-Prft
returns-in-Prft c = search rules

pub returns-in-Emsg : goal.returns-in-Emsg
returns-in-Emsg c = search rules
