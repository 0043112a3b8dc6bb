-- The reply of an event.
use Rattle.std.specs.Prelude.{List, Option, None, option_map}
use Rattle.ll_settings.specs.Settings.{Configuration}
use Rattle.ll_verdict.specs.Events.{Event, Publish, Ask, Clock, Collect, Close}
use Rattle.ll_verdict.specs.State.{state_of}
use Rattle.ll_verdict.specs.Verdict.{at_once, held, reply_of}
use Rattle.ll_verdict.specs.Waiting.{reply_at}
use Rattle.ll_verdict.specs.declared.reply.Reply.{Reply}

-- the reply of an event after the events before it: what a request gets at once, or the reply that is handed out to it
abbrev pub brought_by : Configuration → List Event → Event → Option Reply
brought_by c before (Publish item) = None
brought_by c before (Ask want) = at_once c (held c before) before want
brought_by c before (Clock ms) = None
brought_by c before (Collect ask) = option_map reply_of (reply_at ask (state_of c before).slots)
brought_by c before (Close ask) = None
