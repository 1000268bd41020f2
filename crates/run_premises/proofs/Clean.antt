-- What a run without faults leaves clean.
use Rattle.std.proofs.Common.{◌≡◌, ◌<◌, ℕ, zero, suc, ◌+◌, Bool, true, false, not, ◌&&◌, if◌then◌else◌, List, [], ◌∷◌, length, map, get_or, set, Option, Some, None, refl, sym, ap, subst, ◌∙◌, arith}
use Rattle.std.proofs.lemmas.Bool.{eqb-true, false≢true}
use Rattle.pi_guard.specs.Guards.{crc}
use Rattle.pi_guard.specs.declared.GuardKind.TheVariants.{Crc}
use Rattle.pi_guard.proofs.GuardSizes.{guard_below}
use Rattle.pi_tuple.specs.Finds.{is_escaped, is_zero}
use Rattle.pi_tuple.specs.declared.tuple.Tuple.{Tuple}
use Rattle.pi_tuple.specs.declared.checks.PiType.{PiType}
use Rattle.pi_tuple.specs.declared.checks.PiType.TheVariants.{One, Three, Two, Zero}
use Rattle.pi_tuple.specs.declared.checks.Check.{Check}
use Rattle.page_pool.specs.Cells.{gather}
use Rattle.stack_ops.specs.declared.op.Op.{Op}
use Rattle.rig_api.specs.Frames.{data_of, frame_of, tuple_of}
use Rattle.volume_table.specs.Places.{place_in, volume_len}
use Rattle.volume_table.specs.declared.device.DeviceInfo.{DeviceInfo}
use Rattle.block_path.specs.Acts.{State, act}
use Rattle.block_path.specs.Blocks.{own_tuple}
use Rattle.block_path.specs.Routes.{host_type}
use Rattle.block_path.specs.Serial.{plain}
use Rattle.block_path.proofs.Cells.{below}
use Rattle.run_laws.specs.Passed.{AllFit, IsCalmRun, LiesInImage, MapEntry, Plain, all_pass, as_expected, entry_of, finds_of_app, finds_plainly, kept_unless, own_in, plain_from, plain_map, plain_step, tag_of, act_of, acts_of, script_walk, walk_from, Setting, route, Alters, Reads, Seals, Sets, Shows, Step, Writes, WritesPi, steps_of, AreClean, IsClean, IsUnder, NoEscape, NoneEscapes, SuppliesNoEscape, address_of, held, home, map_from, opened, stored_as, under}
use Rattle.run_laws.proofs.Passed.{op_meets, silent_form, IsProper, quiet, rtag_below, AllProper, map_length, proper_opened, under_opened, under_length, AllMeet, Stands, all_steps, Small, data_is, tuple_is, tag_right}
use Rattle.run_laws.specs.ShownRun.{DevicesAreClean, HasCells, LiesOn}
use Rattle.run_laws.proofs.Counted.{set_cases}
use Rattle.run_laws.proofs.Passing.{host_same}

-- ---- entries that are no escape

abbrev Open : PiType → MapEntry → Type 0
Open ty e = is_escaped ty (record { guard = 0; app = e.app; rtag = e.own }) ≡ false

abbrev AllOpen : PiType → List MapEntry → Type 0
AllOpen ty [] = Unit {0}
AllOpen ty (e ∷ map) = Open ty e × AllOpen ty map

open_set : (ty : PiType) (map : List MapEntry) (i : ℕ) (e : MapEntry) → Open ty e → AllOpen ty map → AllOpen ty (set map i e)
open_set ty [] i e p h = tt
open_set ty (x ∷ map) zero e p h = (p, h.1)
open_set ty (x ∷ map) (suc i) e p h = (h.0, open_set ty map i e p h.1)

open_kept : (ty : PiType) (o : Option Check) (v : ℕ) (e : MapEntry) (map : List MapEntry) → Open ty e → AllOpen ty map → AllOpen ty (kept_unless o v e map)
open_kept ty None v e map p h = open_set ty map v e p h
open_kept ty (Some check) v e map p h = h

nothing_escapes : (ty : PiType) (g : ℕ) → is_escaped ty (record { guard = g; app = 0; rtag = 0 }) ≡ false
nothing_escapes Zero g = refl
nothing_escapes One g = refl
nothing_escapes Two g = refl
nothing_escapes Three g = refl

own_open : (ty : PiType) (t : Tuple) → is_escaped ty t ≡ false → is_escaped ty (record { guard = 0; app = t.app; rtag = own_in ty t.rtag }) ≡ false
own_open Zero t h = refl
own_open One t h = h
own_open Two t h = h
own_open Three t h = h

-- of a tuple that is no escape
entry_open : (m : Setting) (body : List ℕ) (t : Tuple) → (all_pass m ≡ true → is_escaped m.ty t ≡ false) → Open m.ty (entry_of m body t)
entry_open m body t h = by (all_pass m) refl where
  by : (c : Bool) → all_pass m ≡ c → Open m.ty (if c then record { body = body; app = t.app; own = own_in m.ty t.rtag } else record { body = body; app = 0; own = 0 })
  by true e = own_open m.ty t (h e)
  by false e = nothing_escapes m.ty 0

stored_open : (ty : PiType) (g lba : ℕ) (e : MapEntry) → Open ty e → is_escaped ty (record { guard = g; app = e.app; rtag = tag_of ty lba e.own }) ≡ false
stored_open Zero g lba e h = refl
stored_open One g lba e h = h
stored_open Two g lba e h = h
stored_open Three g lba e h = h

held_open : (ty : PiType) (m : Setting) (frame : List ℕ) → let q : Setting = record m { ty = ty } in is_escaped ty (tuple_of m.size frame) ≡ false → Open ty (held q frame)
held_open Zero m frame h = refl
held_open One m frame h = h
held_open Two m frame h = h
held_open Three m frame h = h

passes_all : (ty : PiType) (dix dif : Bool) → (dix && (dif && not (is_zero ty))) ≡ true → (dix ≡ true) × (is_zero ty ≡ false)
passes_all Zero true true h = absurd (false≢true h)
passes_all Zero true false h = absurd (false≢true h)
passes_all Zero false dif h = absurd (false≢true h)
passes_all One true dif h = (refl, refl)
passes_all One false dif h = absurd (false≢true h)
passes_all Two true dif h = (refl, refl)
passes_all Two false dif h = absurd (false≢true h)
passes_all Three true dif h = (refl, refl)
passes_all Three false dif h = absurd (false≢true h)

-- ---- what is stored of an entry

stored_clean : (m : Setting) (lba : ℕ) (e : MapEntry) → is_zero m.ty ≡ false → Open m.ty e → IsProper m e → IsClean m lba (stored_as m lba e)
stored_clean m lba e z o p =
    let t : Tuple = record { guard = crc e.body; app = e.app; rtag = tag_of m.ty lba e.own } in
    subst (IsClean m lba) (sym (ap (λ c. if c then e.body else frame_of e.body (record { guard = crc e.body; app = e.app; rtag = tag_of m.ty lba e.own })) z))
    (framed t (record { guard = guard_below Crc e.body; app = p.app; rtag = rtag_below m.ty lba e.own p.own }))
  where
    framed : (t : Tuple) → Small t → IsClean m lba (frame_of e.body (record { guard = crc e.body; app = e.app; rtag = tag_of m.ty lba e.own }))
    framed t small =
        let u : Tuple = record { guard = crc e.body; app = e.app; rtag = tag_of m.ty lba e.own } in
        let s : Small u = record { guard = guard_below Crc e.body; app = p.app; rtag = rtag_below m.ty lba e.own p.own } in
        let is = tuple_is m.size e.body u p.size s in
        record {
          no_escape = ap (is_escaped m.ty) is ∙ stored_open m.ty (crc e.body) lba e o;
          guard = ap (λ (t : Tuple). t.guard) is ∙ ap crc (sym (data_is m.size e.body u p.size));
          app = ap (λ (t : Tuple). as_expected m t.app) is ∙ p.expected;
          rtag = λ h. ap (λ (t : Tuple). t.rtag) is ∙ tag_right m.ty lba e.own h;
        }

module _ (m : Setting) (n : ℕ) (image : List (List ℕ)) (lies : LiesInImage m n image) (z : is_zero m.ty ≡ false) where
  -- a cell that is clean stays so under a map
  cell_clean : (c lba : ℕ) → ((v : ℕ) → v < n → home m v ≡ c → lba ≡ address_of m v) → IsClean m lba (get_or image c []) →
      (v : ℕ) (map : List MapEntry) → v + length map ≡ n → AllOpen m.ty map → AllProper m map → IsClean m lba (get_or (under m v map image) c [])
  cell_clean c lba meets base v [] s o p = base
  cell_clean c lba meets base v (e ∷ map) s o p =
      let rest = under m (suc v) map image in
      let inside : v < n = omega (arith, s) in
      let within = lies.within v inside in
      let size = under_length m image (suc v) map in
      set_cases (IsClean m lba) rest (home m v) c (stored_as m (address_of m v) e) []
      (λ q. (omega (arith, within, size), subst (λ a. IsClean m a (stored_as m (address_of m v) e)) (sym (meets v inside (eqb-true (home m v) c q))) (stored_clean m (address_of m v) e z o.0 p.0)))
      (λ q. cell_clean c lba meets base (suc v) map (omega (arith, s)) o.1 p.1)

-- ---- along a run

module _ (m' : Setting) (image : List (List ℕ)) (protect : 0 < m'.mode.protect) (free : all_pass m' ≡ false → m'.mode.mask ≡ 0)
    (lies : LiesInImage (quiet m' m'.mode.dix m'.mode.dif m'.ty) (volume_len m'.entries) image) where
  abbrev m : Setting
  m = quiet m' m'.mode.dix m'.mode.dif m'.ty

  abbrev n : ℕ
  n = volume_len m'.entries

  step_open : (step : Step) (s : Plain) (c : State) → SuppliesNoEscape m step c → c.bytes ≡ s.bytes → AllOpen m.ty s.map → AllOpen m.ty (plain_step m step s).map
  step_open (Sets at values) s c e b h = h
  step_open (Shows at) s c e b h = h
  step_open (Seals body tuple app rtag) s c e b h = h
  step_open (Reads b owner to) s c e same h = h
  step_open (Alters dev lba change) s c e b h = h
  step_open (Writes b app body) s c e same h =
      let seen = gather 0 body s.bytes in
      let t = own_tuple (route m b) app seen in
      open_kept m.ty (finds_plainly m app) b.virt (entry_of m seen t) s.map
      (entry_open m seen t (λ all.
      let p = passes_all m'.ty m'.mode.dix m'.mode.dif all in
      subst (λ (ty : PiType). is_escaped ty (own_tuple (route m b) app seen) ≡ false) (host_same m'.ty p.1)
      (subst (λ bs. is_escaped (host_type m'.ty) (own_tuple (route m b) app (gather 0 body bs)) ≡ false) same (e p.0)))) h
  step_open (WritesPi b frame) s c e same h =
      let seen = gather 0 frame s.bytes in
      let t = tuple_of m.size seen in
      open_kept m.ty (finds_of_app m b (data_of m.size seen) t) b.virt (entry_of m (data_of m.size seen) t) s.map
      (entry_open m (data_of m.size seen) t (λ all.
      let p = passes_all m'.ty m'.mode.dix m'.mode.dif all in
      subst (λ (ty : PiType). is_escaped ty (tuple_of m.size seen) ≡ false) (host_same m'.ty p.1)
      (subst (λ bs. is_escaped (host_type m'.ty) (tuple_of m.size (gather 0 frame bs)) ≡ false) same e))) h

  record Runs (s : Plain) (c : State) : Type 0 where
    under_is : IsUnder m s image c
    stands : Stands m n s
    opens : AllOpen m.ty s.map

  steps_run : (steps : List Step) (s : Plain) (c : State) → AllMeet m n steps → NoneEscapes m steps c → Runs s c → Runs (plain (plain_step m) steps s) (plain act (map (act_of m) steps) c)
  steps_run [] s c meets e h = h
  steps_run (step ∷ steps) s c meets e h =
      let one = all_steps m' n image protect free lies (step ∷ []) s c (meets.0, tt) (e.0, tt) h.stands h.under_is in
      steps_run steps (plain_step m step s) (act (act_of m step) c) meets.1 e.1
      (record { under_is = one.under; stands = one.stands; opens = step_open step s c e.0 h.under_is.bytes h.opens })

  ops_run : (i : ℕ) (ops : List Op) (s : Plain) (c : State) → AllFit m ops → NoEscape m i ops c → Runs s c → Runs (plain_from m i ops s) (walk_from m i ops c)
  ops_run i [] s c fit e h = h
  ops_run i (op ∷ ops) s c fit e h = ops_run (suc i) ops (plain (plain_step m) (steps_of m i op) s) (plain act (acts_of m i op) c) fit.1 e.1 (steps_run (steps_of m i op) s c (op_meets m i op fit.0) e.0 h)

  opened_open : is_zero m'.ty ≡ false → AreClean m image → (v k : ℕ) → v + k ≡ n → AllOpen m.ty (map_from m v k image)
  opened_open z clean v zero s = tt
  opened_open z clean v (suc k) s = (held_open m'.ty m (get_or image (home m v) []) (clean v (omega (arith, s)) z).no_escape, opened_open z clean (suc v) k (omega (arith, s)))

-- what is left of a clean cell
pub record Leaves (m : Setting) (ops : List Op) (opening : State) : Type 0 where
  pub cell : (c lba : ℕ) → ((v : ℕ) → v < volume_len m.entries → home m v ≡ c → lba ≡ address_of m v) → IsClean m lba (get_or opening.blocks c []) → IsClean m lba (get_or (script_walk m ops opening).blocks c [])

quiet_leaves : (m' : Setting) (ops : List Op) (opening : State) → let m = quiet m' m'.mode.dix m'.mode.dif m'.ty in is_zero m'.ty ≡ false → IsCalmRun m ops opening → Leaves m ops opening
quiet_leaves m' ops opening z run =
    let m = quiet m' m'.mode.dix m'.mode.dif m'.ty in
    let n = volume_len m'.entries in
    let h = ops_run m' opening.blocks run.calm.protect run.calm.mask run.lies 1 ops (opened m opening) opening run.fit run.no_escape
    (record {
      under_is = record { bytes = refl; blocks = sym (under_opened m n opening.blocks run.lies run.clean run.calm.mask 0 n (omega arith)) };
      stands = record {
        size = map_length m n opening.blocks run.lies 0 n;
        all = proper_opened m n opening.blocks run.lies run.clean run.calm.mask 0 n (omega arith);
        pages = below 256 opening.bytes run.pages;
      };
      opens = opened_open m' opening.blocks run.calm.protect run.calm.mask run.lies z run.clean 0 n (omega arith);
    }) in
    let final = (plain_map m ops (opened m opening)).map in
    record {
      cell = λ c lba meets base.
          let size = h.stands.size in
          subst (λ (bs : List (List ℕ)). IsClean m lba (get_or bs c [])) (sym h.under_is.blocks)
          (cell_clean m n opening.blocks run.lies z c lba meets base 0 final (omega (arith, size)) h.opens h.stands.all);
    }

pub leaves : (m : Setting) (ops : List Op) (opening : State) → is_zero m.ty ≡ false → IsCalmRun m ops opening → Leaves m ops opening
leaves m ops opening z run =
    let e = silent_form m run.calm in
    subst (λ x. Leaves x ops opening) (sym e) (quiet_leaves m ops opening z (subst (λ x. IsCalmRun x ops opening) e run))

pub volume_left_clean : (m : Setting) (ops : List Op) (opening : State) → IsCalmRun m ops opening → AreClean m (script_walk m ops opening).blocks
volume_left_clean m ops opening run v l z =
    (leaves m ops opening z run).cell (home m v) (address_of m v) (λ w k e. ap (address_of m) (sym (run.lies.apart w v k l e))) (run.clean v l z)

pub devices_left_clean : (m : Setting) (devices : List DeviceInfo) (ops : List Op) (opening : State) → is_zero m.ty ≡ false → IsCalmRun m ops opening → LiesOn m devices → HasCells m devices opening.blocks → DevicesAreClean m devices opening.blocks → DevicesAreClean m devices (script_walk m ops opening).blocks
devices_left_clean m devices ops opening z run lies cells clean v lba l h =
    (leaves m ops opening z run).cell (m.site.cell (place_in m.entries v).0 lba) lba (λ w k e. (cells.apart (place_in m.entries v).0 lba (place_in m.entries w).0 (place_in m.entries w).1 h (lies.inside w k) (sym e)).1) (clean v lba l h)
