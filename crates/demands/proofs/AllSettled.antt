-- Of each public contract of the project, two results that it allows are equal. Assumes nothing.
use Rattle.demands.proofs.Settled as lone
use Rattle.demands.proofs.Lent as lent

pub record Settled : Type 2 where
  pub progress : lone.Progresses
  pub idset : lone.Sets
  pub slices : lone.Slices
  pub tracker : lone.Trackers
  pub invariants : lone.Invariants
  pub changes : lone.Changes
  pub calls : lone.Calls
  pub given : lone.Given
  pub text : lent.Texts
  pub listing : lent.Listings
  pub messages : lent.Messages
  pub entries : lent.Entries

pub all_settled : Settled
all_settled =
    record {
      progress = lone.progress;
      idset = lone.idset;
      slices = lone.slices;
      tracker = lone.tracker;
      invariants = lone.invariants;
      changes = lone.changes;
      calls = lone.calls;
      given = lone.given;
      text = lent.text;
      listing = lent.listing;
      messages = lent.messages;
      entries = lent.entries;
    }
