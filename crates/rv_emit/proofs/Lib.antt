mod AccessLemmas
mod AreaLemmas
mod ChoiceLemmas
pub mod ComputingLemmas
mod ConstantLemmas
mod CostLemmas
mod CountingLemmas
mod EmitLemmas
mod FillLemmas
mod FormLemmas
mod JumpLemmas
mod KindLemmas
mod ListsLemmas
mod LoopLemmas
pub mod MovingLemmas
pub mod MovingRepayLemmas
pub mod MovingSettleLemmas
mod NestLemmas
pub mod OperatorLemmas
mod OwedCodeLemmas
mod OwedLemmas
mod PlaceLemmas
mod PlaceNumberLemmas
mod PlaceRunLemmas
mod ProgramCodeLemmas
mod ProgramLemmas
mod ReadLemmas
pub mod RegisterLemmas
mod RepayLemmas
mod RoomLemmas
mod SetLemmas
mod ShiftLemmas
mod ShowLemmas
mod SimulateLemmas
mod SiteLemmas
mod SizeLemmas
mod SpillLemmas
mod StepLemmas
mod TurnLemmas
mod WordLemmas
