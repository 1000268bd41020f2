-- More store calls fail.
use Rattle.std.proofs.Common.{◌≡◌, ℕ, true, List, sym, ap, ◌∙◌}
use Rattle.block_path.specs.declared.route.Route.{Route}
use Rattle.block_path.specs.Acts.{State}
use Rattle.block_path.specs.Blocks.{Sent}
use Rattle.block_path.specs.Routes.{Device}
use Rattle.run_laws.specs.Passed.{Setting, Op}
use Rattle.stack_walk_laws.specs.Following.{Follows}
use Rattle.stack_walk_laws.specs.Sending.{is_carried}
use Rattle.stack_walk_laws.specs.Slots.{Status}
use Rattle.stack_walk_laws.specs.Falls.{Falls, falling, leaves_or, over_falls, sends_or, stores_or}
use Rattle.stack_walk_laws.proofs.Switching.{SameFor, switch}

pub fall_alike : (device : Device) (one two : Falls) (r : Route) → one r.label ≡ two r.label → SameFor (falling one device) (falling two device) r
fall_alike device one two r e = record {
  stores = λ frame. ap (λ o. stores_or o (device.stores r frame)) e;
  sends = λ stored. ap (λ o. sends_or o (device.sends r stored)) e;
  leaves = λ old frame. ap (λ o. leaves_or o (device.leaves r old frame) frame) e;
}

pub more_fall : (m : Setting) (n : ℕ) (ops : List Op) (opening now : State) (status : ℕ → ℕ → Status) (one two : Falls) (es : List Sent) →
    ((i k : ℕ) → is_carried (status i k) ≡ true → one (record { op = i; k = k }) ≡ two (record { op = i; k = k })) →
    Follows (over_falls m one) n ops opening status now es → Follows (over_falls m two) n ops opening status now es
more_fall m n ops opening now status one two es same h =
    switch m (falling one m.site.device) (falling two m.site.device) n ops opening now status es
    (λ i k c r e. fall_alike m.site.device one two r (ap one e ∙ same i k c ∙ sym (ap two e))) h
