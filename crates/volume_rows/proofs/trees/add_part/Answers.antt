use Rattle.std.proofs.Common.{◌+◌, sym, ap, subst, ◌∙◌, rules, zero-add}
use Rattle.volume_tree.specs.Tracks.{FollowsFrom, track_len}
use Rattle.volume_tree.proofs.Following.{follow_push, len_push}
use Rattle.volume_rows.proofs.trees.add_part.Goals as goal

pub returns-in-Ok-clause-after : goal.returns-in-Ok-clause-after
returns-in-Ok-clause-after c = subst (FollowsFrom 0) (sym c.in-Ok.ensures.items) (follow_push 0 c.args.track.now.items (record { start = c.args.start; len = c.args.part.len; dev = c.args.part.dev; at = c.args.part.at }) c.requires.before (record { len = (search rules, search rules); end = search rules; device_end = search rules }) (c.requires.start ∙ sym (zero-add (track_len c.args.track.now.items))))

pub returns-in-Ok-clause-end : goal.returns-in-Ok-clause-end
returns-in-Ok-clause-end c = ap (λ n. n + c.args.part.len) c.requires.start ∙ sym (len_push c.args.track.now.items (record { start = c.args.start; len = c.args.part.len; dev = c.args.part.dev; at = c.args.part.at })) ∙ sym (ap track_len c.in-Ok.ensures.items)
