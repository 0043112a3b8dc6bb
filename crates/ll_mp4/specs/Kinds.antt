-- The types of boxes.
use Rattle.std.specs.Prelude.{ℕ, List, codes}
use Rattle.byteorder.specs.Endian.{big_number}
use Rattle.ll_mp4.specs.declared.kind.Kind.{Kind}
use Rattle.ll_mp4.specs.declared.kind.Kind.TheVariants.{Moov, Trak, Tkhd, Mdia, Mdhd, Mvex, Trex, Moof, Traf, Tfhd, Trun, Mdat, Hdlr, Tfdt, Sidx, Mfra, Prft, Emsg}

abbrev pub name : Kind → List ℕ
name Moov = codes "moov"
name Trak = codes "trak"
name Tkhd = codes "tkhd"
name Mdia = codes "mdia"
name Mdhd = codes "mdhd"
name Mvex = codes "mvex"
name Trex = codes "trex"
name Moof = codes "moof"
name Traf = codes "traf"
name Tfhd = codes "tfhd"
name Trun = codes "trun"
name Mdat = codes "mdat"
name Hdlr = codes "hdlr"
name Tfdt = codes "tfdt"
name Sidx = codes "sidx"
name Mfra = codes "mfra"
name Prft = codes "prft"
name Emsg = codes "emsg"

-- the name's four bytes as a number
unfoldable pub code : Kind → ℕ
code kind = big_number 4 (name kind)
