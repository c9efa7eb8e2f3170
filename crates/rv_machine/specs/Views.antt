-- The interpreter's registers, block and answers as configurations and ends of the machine: this project's own.
use Rattle.std.specs.Prelude.{ℕ, List}
use Rattle.rv_steps.specs.Machine.{BadAccess, Config, OffText as OffTextStop, Trap as TrapStop}
use Rattle.rv_steps.specs.Stops.{Budget as BudgetEnd, Done as DoneEnd, End as EndOfRun, Stopped}
use Rattle.rv_machine.specs.declared.machine.End.{End}
use Rattle.rv_machine.specs.declared.machine.End.TheVariants.{Done, Access, OffText, Trap, Budget}
use Rattle.rv_machine.specs.declared.machine.Regs.{Regs}

-- the configuration of these registers and this block
abbrev pub config_of : Regs → List ℕ → Config
config_of regs block = record { registers = regs.x; pc = regs.pc; block = block }

-- the end that an answer names
abbrev pub end_of : End → EndOfRun
end_of (Done steps) = DoneEnd steps
end_of (Access line address) = Stopped (BadAccess line address)
end_of (OffText address) = Stopped (OffTextStop address)
end_of (Trap line) = Stopped (TrapStop line)
end_of Budget = BudgetEnd
