-- The bridge between the structs and the lists of the rules, as the crates above use it: configurations and `ConfState`s, the tracked ids
-- with their records, trackers, logs. Assumes nothing.
pub use Rattle.tracker.proofs.Confs.{Sets, conf-sets, sets-conf, set-ids, ids_set, unit_conf, conf-formed, conf-back, conf_well, lists_back}
pub use Rattle.tracker.proofs.Peers.{ids-peers, roster_ids, roster_set, roster_places, peers_roster, peers-back}
pub use Rattle.tracker.proofs.Peers.{Formed, tracker_parts, parts_tracker, rostered, tracked-ids, unit_tracker, tracker_formed, state-back, tracker_well}
pub use Rattle.tracker.proofs.Logs.{Logged, log-parts, parts-log, length-log, unit_log, log-formed, log_back, log_well}
