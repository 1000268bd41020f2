use Rattle.std.proofs.Common.{◌≡◌, ℕ, ◌+◌, List, ◌++◌, length, take, drop, ap, sym, ◌∙◌, arith, length-append}
use Rattle.std.proofs.lemmas.List.{take-append-drop, take-take}
use Rattle.block_path.specs.Routes.{wire_size}
use Rattle.dix_adapter.proofs.Gathering.{route-most}
use Rattle.dix_adapter.proofs.Landing.{behind-frame}
use Rattle.dix_adapter.proofs.OnTheWay.{landed-by}
use Rattle.dix_adapter.proofs.adapter.Adapter.land_next.Goals as goal

pub returns-clause-landed : goal.returns-clause-landed
returns-clause-landed c =
    let w = wire_size c.args.walks.now.route in
    let m = route-most c.args.walks.now.route in
    let front : take w c.split_at_mut-frame.result.0.now ≡ take w (drop c.args.at c.args.frames.now) =
    ap (take w) c.split_at_mut-frame.ensures.front ∙ take-take w (c.args.walks.now.route.size + 8) c.split_at_mut-rest.result.1.now (omega (arith, m)) ∙ ap (take w) c.split_at_mut-rest.ensures.back in
    landed-by c.args.self.now c.args.walks.now c.split_at_mut-frame.result.0.now (drop c.args.at c.args.frames.now) c.args.pool.now c.receive.new.pool c.receive.result front c.receive.ensures.landed

-- the two parts of a list that was split
parts : (n : ℕ) (xs X Y : List ℕ) → X ≡ take n xs → Y ≡ drop n xs → xs ≡ X ++ Y
parts n xs X Y e f = sym (ap (λ z. z ++ Y) e ∙ ap (λ z. take n xs ++ z) f ∙ take-append-drop n xs)

-- the part in the middle is as long
middle-long : (X F F' Y : List ℕ) → length F' ≡ length F → length (X ++ (F' ++ Y)) ≡ length (X ++ (F ++ Y))
middle-long X F F' Y e =
    let a = length-append X (F' ++ Y) in
    let b = length-append F' Y in
    let c = length-append X (F ++ Y) in
    let d = length-append F Y in
    omega arith

pub returns-clause-behind : goal.returns-clause-behind
returns-clause-behind c =
    let w = wire_size c.args.walks.now.route in
    let m = route-most c.args.walks.now.route in
    let front = c.split_at_mut-rest.result.0.now in
    let frame = c.split_at_mut-frame.result.0.now in
    let back = c.split_at_mut-frame.result.1.now in
    let r = parts (c.args.walks.now.route.size + 8) c.split_at_mut-rest.result.1.now frame back c.split_at_mut-frame.ensures.front c.split_at_mut-frame.ensures.back in
    let f = parts c.args.at c.args.frames.now front c.split_at_mut-rest.result.1.now c.split_at_mut-rest.ensures.front c.split_at_mut-rest.ensures.back in
    let same = ap (λ z. front ++ z) (sym r) ∙ sym f in
    record {
      behind = behind-frame c.args.at w front frame c.receive.new.frame back c.split_at_mut-rest.ensures.front_len
          (omega (arith, m, c.split_at_mut-frame.ensures.front_len)) c.receive.ensures.behind.long c.receive.ensures.behind.behind
          ∙ ap (drop (c.args.at + w)) same;
      long = middle-long front frame c.receive.new.frame back c.receive.ensures.behind.long ∙ ap length same;
    }
