use Rattle.std.specs.Prelude.{ℕ, ◌≡◌, ◌≢◌, ℤ, true, Bool, ◌||◌, eqb, List, [], ◌++◌, take, drop}
use Rattle.pi_guard.specs.Guards.{crc, guard_of}
use Rattle.pi_tuple.specs.Finds.{is_escaped}
use Rattle.pi_tuple.specs.Tuples.{ref_tag}
use Rattle.fault_schedule.specs.Altered.{kept}
use Rattle.fault_schedule.specs.declared.fault.Crossing.{Crossing}
use Rattle.fault_schedule.specs.declared.fault.Crossing.TheVariants.{AdapterToTarget, MediumToTarget, TargetToMedium}
use Rattle.fault_schedule.specs.declared.fault.FaultKind.TheVariants.{Fail, Keep, Shift}
use Rattle.fault_schedule.specs.declared.fault.FaultLine.{FaultLine}
use Rattle.integrity_payload.specs.declared.payload.Owner.{Owner}
use Rattle.bio_core.specs.declared.request.Dir.TheVariants.{Read, Write}
use Rattle.rig_api.specs.Frames.{data_of, tuple_of}
use Rattle.block_path.specs.Routes.{host_type, medium_lba, moved, stored_lba}
use Rattle.walk_laws.specs.Settings.{Block, Setting, route}
use Rattle.walk_laws.specs.PlainMap.{MapEntry, entry_of, tag_of}
use Rattle.walk_laws.specs.UnderMap.{stored_as}
use Rattle.mode_map.specs.Finders.{IsCleanBlock, is_served}
use Rattle.mode_map.specs.Failures.{Comes, at_home, cell_if, expected, failure_cell, fault_of, read_comes, write_comes}
use Rattle.mode_map.specs.declared.failures.Failure.TheVariants.{MisdirectedRead, MisdirectedWrite, Torn, Unreadable}
use Rattle.mode_map.specs.declared.failures.Link.{Link}
use Rattle.mode_map.specs.declared.failures.Link.TheVariants.{OnMedium, OnWire}
use Rattle.mode_map.specs.declared.failures.Place.TheVariants.{Hit, Home}

-- What the failures of the disk and of addresses come to, each alone.

-- what a write without faults stores of the block, and what stands there when its first n bytes alone are stored over an older block
abbrev pub written : Setting → Block → MapEntry → List ℕ
written m b e = at_home m b (entry_of m e.body (record { guard = guard_of m.mode.kind e.body; app = e.app; rtag = tag_of (host_type m.ty) b.virt e.own }))

abbrev pub torn_block : Setting → Block → (n : ℕ) → (old e : MapEntry) → List ℕ
torn_block m b n old e = take n (written m b e) ++ drop n (at_home m b old)

-- No check of a guard finds this stored block: its tuple is an escape, or its guard is that of its data.
abbrev pub fits_guard : Setting → (stored : List ℕ) → Bool
fits_guard m stored = is_escaped m.ty (tuple_of m.size stored) || eqb (tuple_of m.size stored).guard (crc (data_of m.size stored))

-- one shift of a read's address, and one of a write's
abbrev pub read_shift : Link → Crossing
read_shift OnWire = AdapterToTarget
read_shift OnMedium = MediumToTarget

abbrev pub write_shift : Link → Crossing
write_shift OnWire = AdapterToTarget
write_shift OnMedium = TargetToMedium

abbrev pub read_led : Block → Link → ℤ → List FaultLine
read_led b link by = fault_of b (read_shift link) (Shift by)

abbrev pub write_led : Block → Link → ℤ → List FaultLine
write_led b link by = fault_of b (write_shift link) (Shift by)

-- ---- the law

-- in a setting of a served mode, of a block whose tuple is no escape, and of any that reads
pub record AreOthersFound : Type 0 where
  -- the medium can't store the block, whatever would be read next, or can't send it, whatever stands there
  pub unstorable : (m : Setting) (b : Block) (e : MapEntry) (next : List ℕ → Comes) → is_served m.mode.protect ≡ true → IsCleanBlock m e →
      write_comes m b (fault_of b TargetToMedium Fail) e next ≡ expected (failure_cell (Unreadable Write) m.mode m.ty) e.body
  pub unreadable : (m : Setting) (b : Block) (owner : Owner) (stored body : List ℕ) → read_comes m b owner (fault_of b MediumToTarget Fail) stored ≡ expected (failure_cell (Unreadable Read) m.mode m.ty) body
  -- a write that keeps its first n bytes over an older block; torn inside of the application tag two that are no escapes may make one
  pub torn : (m : Setting) (b : Block) (owner : Owner) (n : ℕ) (old e : MapEntry) → is_served m.mode.protect ≡ true → IsCleanBlock m old → IsCleanBlock m e →
      write_comes m b (fault_of b TargetToMedium (Keep n)) e (λ stored. read_comes m b owner [] (kept (fault_of b TargetToMedium (Keep n)) (route m b).label (at_home m b old) stored))
      ≡ expected (cell_if Torn m.mode m.ty (fits_guard m (torn_block m b n old e))) (data_of m.size (torn_block m b n old e))
  -- a shift moves the address at which a read finds the block, and the one at which a write stores it
  pub found_at : (m : Setting) (b : Block) (link : Link) (by : ℤ) → medium_lba (read_led b link by) (route m b) ≡ moved (route m b).lba by
  pub stored_at : (m : Setting) (b : Block) (link : Link) (by : ℤ) → stored_lba (write_led b link by) (route m b) ≡ moved (route m b).lba by
  -- a read that fetches the block of another address, as properly stored there
  pub misread : (m : Setting) (b : Block) (owner : Owner) (link : Link) (by : ℤ) (other : MapEntry) → is_served m.mode.protect ≡ true → IsCleanBlock m other →
      ref_tag (medium_lba (read_led b link by) (route m b)) ≢ ref_tag (route m b).lba →
      read_comes m b owner (read_led b link by) (stored_as m (medium_lba (read_led b link by) (route m b)) other) ≡ expected (failure_cell (MisdirectedRead link) m.mode m.ty) other.body
  -- a write that goes to another address: at the one that was meant stays the older block, and the one that is hit is read next
  pub written_off : (m : Setting) (b : Block) (owner : Owner) (link : Link) (by : ℤ) (old e : MapEntry) → is_served m.mode.protect ≡ true → IsCleanBlock m old → IsCleanBlock m e →
      ref_tag (stored_lba (write_led b link by) (route m b)) ≢ ref_tag (route m b).lba →
      write_comes m b (write_led b link by) e (λ stored. read_comes m b owner [] (at_home m b old)) ≡ expected (failure_cell (MisdirectedWrite link Home) m.mode m.ty) old.body
  pub hit : (m : Setting) (b other : Block) (owner : Owner) (link : Link) (by : ℤ) (e : MapEntry) → is_served m.mode.protect ≡ true → IsCleanBlock m e →
      ref_tag (stored_lba (write_led b link by) (route m b)) ≢ ref_tag (route m b).lba → (route m other).lba ≡ stored_lba (write_led b link by) (route m b) →
      write_comes m b (write_led b link by) e (read_comes m other owner []) ≡ expected (failure_cell (MisdirectedWrite link Hit) m.mode m.ty) e.body
