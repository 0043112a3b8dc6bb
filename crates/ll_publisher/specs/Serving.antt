-- For private contracts: a publisher's connection while it is served.
use Rattle.std.specs.Prelude.{◌≡◌, ℕ, List, [], ◌++◌, Option}
use Rattle.std.specs.Io.KnownBytes.{Appends}
use Rattle.ll_device.specs.Written.{AppendsPrefix}
use Rattle.ll_hub.specs.Calls.{HasSeen}
use Rattle.ll_hub.specs.Passes.{PassValue}
use Rattle.ll_publish.specs.Line.{Line}
use Rattle.ll_publish.specs.Lines.{FeedValue, lines_in}
use Rattle.ll_publish.specs.Past.{Call, past}
use Rattle.ll_publisher.specs.Doors.{Origin}
use Rattle.ll_publisher.specs.Publishing.{AreRight, Caller, Exchange, after_all, lines_of, replies_of}

-- after some calls on a feed, which took the bytes `taken`: each line that it gave was answered once, and these answers were sent
pub record IsServing (o : Origin) (taken : List ℕ) (feed : FeedValue) (start caller : Caller) (base written : Option (List ℕ)) : Type 0 where
  pub calls : List Call
  pub bytes : (past calls).taken ≡ taken
  pub kept : (past calls).feed ≡ feed
  pub exchanges : List Exchange
  pub given : (past calls).given ≡ lines_of exchanges
  pub right : AreRight o start exchanges
  pub remembered : caller ≡ after_all o start exchanges
  pub sent : Appends base written (replies_of exchanges)

-- the first of the lines were answered once each, and a prefix of these answers was sent
pub record IsBroken (o : Origin) (taken : List ℕ) (start : Caller) (pass : PassValue) (base written : Option (List ℕ)) : Type 0 where
  pub calls : List Call
  pub bytes : (past calls).taken ≡ taken
  pub exchanges : List Exchange
  pub later : List Line
  pub given : (past calls).given ≡ lines_of exchanges ++ later
  pub right : AreRight o start exchanges
  pub passed : HasSeen (after_all o start exchanges).pass pass
  pub sent : AppendsPrefix base written (replies_of exchanges)

-- and no whole line is left
pub record IsDrained (o : Origin) (taken : List ℕ) (feed : FeedValue) (start caller : Caller) (base written : Option (List ℕ)) : Type 0 where
  pub serving : IsServing o taken feed start caller base written
  pub none : lines_in feed ≡ []
