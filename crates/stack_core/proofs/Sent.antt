-- The group that a step sends: it can be carried, and room is left for what may still be sent.
use Rattle.std.proofs.Common.{◌≡◌, ◌<◌, ◌≤◌, ℕ, ◌+◌, ◌-◌, Bool, true, List, [], ◌∷◌, length, replicate, get_or, refl, sym, ap, ◌∙◌, arith}
use Rattle.std.specs.Prelude.{nat_lt}
use Rattle.std.proofs.lemmas.Bool.{ltb-true}
use Rattle.std.proofs.lemmas.List.{length-replicate}
use Rattle.std.proofs.lemmas.List.Elements.{All-get_or, All-head}
use Rattle.bio_core.specs.declared.bio.Bio.{Bio}
use Rattle.bio_core.specs.declared.request.Io.{Io}
use Rattle.bio_core.specs.Bios.{block_size}
use Rattle.bio_core.specs.declared.fate.Fate.{Fate}
use Rattle.bio_core.specs.declared.fate.Fate.TheVariants.{Bad, Good, Untouched}
use Rattle.merge_queue.specs.Groups.{Group, size}
use Rattle.rig_api.specs.Log.{HasRoom, Room}
use Rattle.rig_api.specs.Telling.{Standing, greatest_size}
use Rattle.dix_adapter.specs.declared.adapter.Adapter.{Adapter}
use Rattle.dix_adapter.specs.declared.scratch.Scratch.{Scratch}
use Rattle.dix_adapter.specs.Groups as Carry
use Rattle.dix_adapter.specs.Room.{HoldsBlocks, KeepsRoom}
use Rattle.dix_adapter.proofs.Rooms.{holds-fewer}
use Rattle.dix_adapter.specs.Ways.{Spends, settled_count as count_settled}
use Rattle.stack_laws.specs.Blocks.{settled_count}
use Rattle.stack_laws.specs.Formed.{IsGroup, Named}
use Rattle.stack_laws.specs.Plan.{Plan}
use Rattle.stack_laws.specs.Room.{exchanges_left, frames_left}
use Rattle.stack_laws.specs.Runs.{blocks_of_requests}
use Rattle.stack_laws.specs.Sound.{HasBlocks, Settles}
use Rattle.stack_laws.specs.Steps.{Send as StepSend, can, step}
use Rattle.stack_laws.specs.View.{View, group_at, queue_at}
use Rattle.stack_laws.proofs.Formed.{queue-groups}
use Rattle.stack_laws.proofs.Keeps.{queue-there}
use Rattle.stack_laws.proofs.Room.{exchanges-fall, frames-fall}
use Rattle.stack_laws.proofs.Runs.{all-settled-good}
use Rattle.stack_steps.specs.declared.choice.Choice.TheVariants.{Send}
use Rattle.stack_steps.specs.declared.machine.Machine.{Machine}
use Rattle.stack_steps.specs.Does.{Flies, Holds, Ready, Sending, Takes, Works}
use Rattle.stack_steps.specs.Fine.{Fine}
use Rattle.stack_steps.proofs.Sums.{sends-fit}
use Rattle.stack_core.specs.declared.stack.Stack.{Stack}
use Rattle.stack_core.specs.Stacks.{HasSpare, HoldsEach, IsStack, Reaches, plan_in}
use Rattle.stack_core.proofs.Sending.{carried-group, same-size}
use Rattle.stack_walk_laws.specs.Sheets.{io_at}
use Rattle.stack_walk_laws.proofs.Spare.{fewer}

-- a group that can be sent in one view can be sent in each that the machine shows
can-too : (p : Plan) (m : Machine) (u v : View) (d i : ℕ) → Holds p m u → Holds p m v → can p v (StepSend d i) ≡ true → can p u (StepSend d i) ≡ true
can-too p m u v d i x y h = ap (λ (qs : List (List Group)). nat_lt i (length (get_or qs d []))) (sym x.shows.queued ∙ y.shows.queued) ∙ h

-- ---- room

pub holds-still : (ios : List Io) (most : ℕ) (old new : Scratch) → KeepsRoom old new → HoldsEach ios most old → HoldsEach ios most new
holds-still ios most old new k each = λ i z.
    (let h = each i z in
    let a = k.frames in
    let b = k.labels in
    let f = h.frames in
    let x = h.labels in
    record { frames = omega arith; few = h.few; labels = omega arith })

-- room for the largest blocks is room for those of each request
pub holds-all : (ios : List Io) (bytes most : ℕ) (s : Scratch) → ((i : ℕ) → 0 < (io_at ios i).count → block_size (io_at ios i) ≤ bytes) → HoldsBlocks bytes most s → HoldsEach ios most s
holds-all ios bytes most s small h = λ i z. holds-fewer bytes (block_size (io_at ios i)) most most s (small i z) (omega arith) h

-- room for the blocks of each request is room for those of a group
pub holds-group : (a : Adapter) (pool : List (List ℕ)) (bytes : ℕ) (ios : List Io) (req : List Bio) (most : ℕ) (s : Scratch) → Carry.IsCarriedGroup a pool bytes ios req → Carry.size req ≤ most → HoldsEach ios most s →
    HoldsBlocks (Carry.block_len ios req) (Carry.size req) s
holds-group a pool bytes ios req most s g l h =
    let k = All-get_or (Carry.IsBio a pool bytes ios (Carry.first_of req).dev (Carry.first_of req).dir) req 0 Carry.no_bio (let x = g.some in omega arith) g.bios in
    let some = k.some in
    let within = k.within in
    holds-fewer (Carry.block_len ios req) (Carry.block_len ios req) most (Carry.size req) s (omega arith) l (h ((Carry.first_of req).op - 1) (omega arith))

same-count : (fs : List Fate) → count_settled fs ≡ settled_count fs
same-count [] = refl
same-count (Good ∷ fs) = ap (λ n. 1 + n) (same-count fs)
same-count (Bad why ∷ fs) = ap (λ n. 1 + n) (same-count fs)
same-count (Untouched ∷ fs) = ap (λ n. 0 + n) (same-count fs)

good-settles : (g : Group) → HasBlocks g → Settles g (replicate (size g) Good)
good-settles g h = let e = all-settled-good (size g) in record { each = length-replicate (size g) Good; some = omega arith }

room-before : (p : Plan) (m : Machine) (v : View) (d i most : ℕ) (r : Room) → Fine p → Holds p m v → can p v (StepSend d i) ≡ true → HasBlocks (group_at v d i) → HasRoom most (exchanges_left v) (frames_left p v) r → HasRoom most 1 (size (group_at v d i)) r
room-before p m v d i most r f h c b room =
    let fates = replicate (size (group_at v d i)) Good in
    let a = good-settles (group_at v d i) b in
    let x : exchanges_left (step p v (StepSend d i) 0 fates) + 1 ≤ exchanges_left v = exchanges-fall p v (StepSend d i) 0 fates f.on_devices h.shows.sound h.shows.accounted c a in
    let y : frames_left p (step p v (StepSend d i) 0 fates) + settled_count fates ≡ frames_left p v = frames-fall p v (StepSend d i) 0 fates f.on_devices h.shows.sound c a in
    let n = all-settled-good (size (group_at v d i)) in
    fewer most (exchanges_left v) (frames_left p v) 1 (size (group_at v d i)) r room (omega arith) (omega arith)

pub room-after : (p : Plan) (m : Machine) (v : View) (d i cut most : ℕ) (fates : List Fate) (r r₂ : Room) → Fine p → Holds p m v → can p v (StepSend d i) ≡ true → Settles (group_at v d i) fates → HasRoom most (exchanges_left v) (frames_left p v) r → Spends most fates r r₂ →
    HasRoom most (exchanges_left (step p v (StepSend d i) cut fates)) (frames_left p (step p v (StepSend d i) cut fates)) r₂
room-after p m v d i cut most fates r r₂ f h c a room s =
    let e = exchanges_left (step p v (StepSend d i) cut fates) in
    let b = frames_left p (step p v (StepSend d i) cut fates) in
    let x : e + 1 ≤ exchanges_left v = exchanges-fall p v (StepSend d i) cut fates f.on_devices h.shows.sound h.shows.accounted c a in
    let y : b + settled_count fates ≡ frames_left p v = frames-fall p v (StepSend d i) cut fates f.on_devices h.shows.sound c a in
    let n = same-count fates in
    s e b (fewer most (exchanges_left v) (frames_left p v) (e + 1) (b + count_settled fates) r room x (omega arith))

-- ---- the group

head-device : (p : Plan) (d : ℕ) (g : List Bio) → HasBlocks g → IsGroup p d g → (Carry.first_of g).dev ≡ d
head-device p d [] h i = absurd (omega arith)
head-device p d (b ∷ bs) h i = (All-head (Named p d) b bs i.named).on

-- what is known of the group that is sent: all that the adapter asks of it, and where it comes from
pub record IsSentGroup (s : Stack) (d i : ℕ) (group : List Bio) (st : Standing) (room : Room) : Type 0 where
  pub bytes : ℕ
  pub fits : Carry.IsCarriedGroup s.adapter s.pool bytes s.sheet.ios.items group
  pub most : Carry.size group ≤ s.sheet.limits.max_blocks
  pub some : HasBlocks group
  pub of_plan : IsGroup (plan_in s.sheet) d group
  pub few : Carry.size group ≤ blocks_of_requests (plan_in s.sheet).requests
  pub on : (Carry.first_of group).dev ≡ d
  pub device : (Carry.first_of group).dev < st.devices
  pub spare : HasRoom (greatest_size st) 1 (Carry.size group) room

pub can-carry : (s : Stack) (d i : ℕ) (group : List Bio) (m : Machine) (told : Bool) (st : Standing) (room : Room) → IsStack s → HasSpare s st room → Reaches s told st → Ready (plan_in s.sheet) s.machine (Send d i) → Takes (plan_in s.sheet) s.machine d i group m → IsSentGroup s d i group st room
can-carry s d i group m told st room k sp re rd tk =
    let p = plan_in s.sheet in
    let v = sp.view in
    let f = s.sheet.right.fine in
    let w = sp.holds.shows in
    let c = can-too p s.machine v rd.view d i sp.holds rd.holds (ap (can p rd.view) (sym rd.means) ∙ rd.can) in
    let e : group ≡ group_at v d i = (tk v (StepSend d i) sp.holds c refl).1 in
    let l = ltb-true i (length (queue_at v d)) c in
    let fit = sends-fit p v d i w.sound w.formed w.accounted l in
    let q = queue-there v d i l in
    let n = w.sound.devices in
    let g = All-get_or (IsGroup p d) (queue_at v d) i [] l (queue-groups p v d q w.formed) in
    let z = same-size (group_at v d i) in
    let hd = head-device p d (group_at v d i) fit.some g in
    let few = g.few in
    let small = fit.few in
    let dv = re.devices in
    rw e (record {
      bytes = k.fixed.bytes;
      fits = carried-group s.sheet.ops s.sheet.shifted.items s.sheet.ios.items s.sheet.table s.sheet.limits s.sheet.devices d s.adapter s.pool k.fixed.bytes (group_at v d i) f k.fixed.uniform k.whole s.sheet.right.numbers fit.some g;
      most = omega arith;
      some = fit.some;
      of_plan = g;
      few = omega arith;
      on = hd;
      device = omega arith;
      spare = rw z (room-before p s.machine v d i (greatest_size st) room f sp.holds c fit.some sp.spare);
    })

-- what the machine asks of the fates
pub sending : (p : Plan) (m m₂ : Machine) (d i : ℕ) (group : List Bio) (fates : List Fate) → Ready p m (Send d i) → Takes p m d i group m₂ → Settles group fates → Sending p m₂ d group fates
sending p m m₂ d i group fates r t s =
    let k = t r.view r.step r.holds r.can r.means in
    record { view = r.view; place = i; taken = k.0; group_is = k.1; settles = s }

-- the machine works again
pub sent-works : (p : Plan) (m m₂ m₃ : Machine) (d i : ℕ) (group : List Bio) (fates : List Fate) → Ready p m (Send d i) → Takes p m d i group m₂ → Settles group fates → Flies p m₂ d group fates m₃ → Works p m₃
sent-works p m m₂ m₃ d i group fates r t s f =
    let k = t r.view r.step r.holds r.can r.means in
    (step p r.view (StepSend d i) 0 fates, f r.view i 0 k.0 k.1 s)

-- the room that is left
pub spare-sent : (s s₂ : Stack) (m : Machine) (d i : ℕ) (group : List Bio) (fates : List Fate) (st st₂ : Standing) (room room₂ : Room) → HasSpare s st room → Ready (plan_in s.sheet) s.machine (Send d i) → Takes (plan_in s.sheet) s.machine d i group m →
    Settles group fates → Flies (plan_in s.sheet) m d group fates s₂.machine → Spends (greatest_size st) fates room room₂ → s₂.sheet ≡ s.sheet → st₂ ≡ st → HasSpare s₂ st₂ room₂
spare-sent s s₂ m d i group fates st st₂ room room₂ sp rd tk se fl sd x y =
    let p = plan_in s.sheet in
    let v = sp.view in
    let c = can-too p s.machine v rd.view d i sp.holds rd.holds (ap (can p rd.view) (sym rd.means) ∙ rd.can) in
    let t = tk v (StepSend d i) sp.holds c refl in
    let a : Settles (group_at v d i) fates = rw t.1 at se in
    record {
      view = step p v (StepSend d i) 0 fates;
      holds = rw x (fl v i 0 t.0 t.1 se);
      spare = rw (x, y) (room-after p s.machine v d i 0 (greatest_size st) fates room room₂ s.sheet.right.fine sp.holds c a sp.spare sd);
    }
