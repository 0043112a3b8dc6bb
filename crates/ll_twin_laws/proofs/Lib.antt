mod ItemLemmas
mod LeastLemmas
mod MomentProof
mod OwnProof
mod PageProof
mod ReplyProof
mod TextProof
mod WorkedExample
