use Rattle.ll_hub.proofs.locks.ChannelLocks.end.Given as goal

abbrev pub decreases-loop-channel_lock : goal.decreases-loop-channel_lock
decreases-loop-channel_lock g l = goal.left-loop-channel_lock g l
