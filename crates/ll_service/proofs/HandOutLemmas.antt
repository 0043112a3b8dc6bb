-- A record that was handed out, for a caller who has seen more since.
use Rattle.std.proofs.Common.{List, Option, ℕ}
use mathlib.Core.List.{IsPrefix}
use Rattle.ll_history.proofs.HistoryLemmas.{done-longer}
use Rattle.ll_history.specs.declared.deed.Deed.TheVariants as deed
use Rattle.ll_history.specs.declared.deed.Logged.{Logged}
use Rattle.ll_hub.specs.Calls.{IsHandedTo}
use Rattle.ll_record.specs.Taken.{TakenChunk}
use Rattle.ll_service.specs.HandOuts.{IsHandedOver}
use Rattle.ll_settings.specs.Settings.{Configuration}

pub handed_over : {K : Type 0} (taken : K → Option (List TakenChunk)) (hub : List Configuration) (place : ℕ) (before mid after : List Logged) (sink handle : K)
    → IsHandedTo hub place before mid (taken sink) (taken handle) → IsPrefix mid after → IsHandedOver taken hub place before after sink
handed_over taken hub place before mid after sink handle h p =
    let r = h.rotated in
    record {
      handle = handle;
      handed = record {
        chunk = h.chunk;
        rotated = record {
          settings = r.settings;
          channel = r.channel;
          handed_out = done-longer before mid after place deed.HandOut _ p r.handed_out;
        };
        takes = h.takes;
      };
    }
