-- Small shaders in words, to try the definitions on.
use Rattle.std.specs.Prelude.{ℕ, List, [], ◌∷◌, ◌++◌, take, drop, codes, slice_set}
use Rattle.spv_module.specs.Code.{Code, code_of}
use Rattle.spv_machine.specs.Dispatch.{Bound, Dispatch}

-- a shader whose invocation i doubles word i of a buffer; a workgroup has 64 invocations
abbrev pub doubling_words : List ℕ
doubling_words =
    0x0723_0203 ∷ 0x0001_0600 ∷ 0 ∷ 22 ∷ 0
    -- OpCapability Shader; OpMemoryModel Logical GLSL450
    ∷ 0x0002_0011 ∷ 1 ∷ 0x0003_000E ∷ 0 ∷ 1
    -- OpEntryPoint GLCompute %1 "main" %2 %3; OpExecutionMode %1 LocalSize 64 1 1
    ∷ 0x0007_000F ∷ 5 ∷ 1 ∷ 0x6E69_616D ∷ 0 ∷ 2 ∷ 3 ∷ 0x0006_0010 ∷ 1 ∷ 17 ∷ 64 ∷ 1 ∷ 1
    -- OpSource GLSL 450; OpName %1 "main"
    ∷ 0x0003_0003 ∷ 2 ∷ 450 ∷ 0x0004_0005 ∷ 1 ∷ 0x6E69_616D ∷ 0
    -- OpDecorate %2 BuiltIn GlobalInvocationId; %3 DescriptorSet 0; %3 Binding 0
    ∷ 0x0004_0047 ∷ 2 ∷ 11 ∷ 28 ∷ 0x0004_0047 ∷ 3 ∷ 34 ∷ 0 ∷ 0x0004_0047 ∷ 3 ∷ 33 ∷ 0
    -- %4 Block; OpMemberDecorate %4 0 Offset 0; OpDecorate %5 ArrayStride 4
    ∷ 0x0003_0047 ∷ 4 ∷ 2 ∷ 0x0005_0048 ∷ 4 ∷ 0 ∷ 35 ∷ 0 ∷ 0x0004_0047 ∷ 5 ∷ 6 ∷ 4
    -- %6 = OpTypeVoid; %7 = OpTypeFunction %6; %8 = OpTypeInt 32 0; %9 = OpTypeVector %8 3
    ∷ 0x0002_0013 ∷ 6 ∷ 0x0003_0021 ∷ 7 ∷ 6 ∷ 0x0004_0015 ∷ 8 ∷ 32 ∷ 0 ∷ 0x0004_0017 ∷ 9 ∷ 8 ∷ 3
    -- %10 = OpTypePointer Input %9; %5 = OpTypeRuntimeArray %8; %4 = OpTypeStruct %5
    ∷ 0x0004_0020 ∷ 10 ∷ 1 ∷ 9 ∷ 0x0003_001D ∷ 5 ∷ 8 ∷ 0x0003_001E ∷ 4 ∷ 5
    -- %11 = OpTypePointer StorageBuffer %4; %12 = OpTypePointer StorageBuffer %8; %13 = OpTypePointer Input %8
    ∷ 0x0004_0020 ∷ 11 ∷ 12 ∷ 4 ∷ 0x0004_0020 ∷ 12 ∷ 12 ∷ 8 ∷ 0x0004_0020 ∷ 13 ∷ 1 ∷ 8
    -- %14 = OpConstant %8 0; %15 = OpConstant %8 2; %2 = OpVariable %10 Input; %3 = OpVariable %11 StorageBuffer
    ∷ 0x0004_002B ∷ 8 ∷ 14 ∷ 0 ∷ 0x0004_002B ∷ 8 ∷ 15 ∷ 2 ∷ 0x0004_003B ∷ 10 ∷ 2 ∷ 1 ∷ 0x0004_003B ∷ 11 ∷ 3 ∷ 12
    -- %1 = OpFunction %6 None %7; %16 = OpLabel
    ∷ 0x0005_0036 ∷ 6 ∷ 1 ∷ 0 ∷ 7 ∷ 0x0002_00F8 ∷ 16
    -- %17 = OpAccessChain %13 %2 %14; %18 = OpLoad %8 %17
    ∷ 0x0005_0041 ∷ 13 ∷ 17 ∷ 2 ∷ 14 ∷ 0x0004_003D ∷ 8 ∷ 18 ∷ 17
    -- %19 = OpAccessChain %12 %3 %14 %18; %20 = OpLoad %8 %19
    ∷ 0x0006_0041 ∷ 12 ∷ 19 ∷ 3 ∷ 14 ∷ 18 ∷ 0x0004_003D ∷ 8 ∷ 20 ∷ 19
    -- %21 = OpIMul %8 %20 %15; OpStore %19 %21; OpReturn; OpFunctionEnd
    ∷ 0x0005_0084 ∷ 8 ∷ 21 ∷ 20 ∷ 15 ∷ 0x0003_003E ∷ 19 ∷ 21 ∷ 0x0001_00FD ∷ 0x0001_0038 ∷ []

abbrev pub doubling : Code
doubling = code_of doubling_words

-- without its OpSource and OpName
abbrev pub stripped : Code
stripped = code_of (take 23 doubling_words ++ drop 30 doubling_words)

-- with workgroups of two invocations
abbrev pub doubling_by_two : Code
doubling_by_two = code_of (slice_set doubling_words 20 2)

-- and with each of them at the first word of the buffer
abbrev pub doubling_one_word : Code
doubling_one_word = code_of (slice_set (slice_set doubling_words 20 2) 126 14)

-- with the array behind the first word of the buffer, and with each second word of the buffer
abbrev pub doubling_behind : Code
doubling_behind = code_of (slice_set doubling_words 49 4)

abbrev pub doubling_apart : Code
doubling_apart = code_of (slice_set doubling_words 53 8)

-- with a second entry point main, of another function, behind the first
abbrev pub doubling_twice : Code
doubling_twice = code_of (take 17 doubling_words ++ (0x0005_000F ∷ 5 ∷ 20 ∷ 0x6E69_616D ∷ 0 ∷ []) ++ drop 17 doubling_words)

-- with the variable, or the member of the buffer, or the load decorated or marked as volatile
abbrev pub volatile_variable : Code
volatile_variable = code_of (take 54 doubling_words ++ (0x0003_0047 ∷ 3 ∷ 21 ∷ []) ++ drop 54 doubling_words)

abbrev pub volatile_member : Code
volatile_member = code_of (take 54 doubling_words ++ (0x0004_0048 ∷ 4 ∷ 0 ∷ 21 ∷ []) ++ drop 54 doubling_words)

abbrev pub volatile_load : Code
volatile_load = code_of (take 127 doubling_words ++ (0x0005_003D ∷ 8 ∷ 20 ∷ 19 ∷ 1 ∷ []) ++ drop 131 doubling_words)

-- without its workgroup size
abbrev pub unsized : Code
unsized = code_of (take 17 doubling_words ++ drop 23 doubling_words)

-- What wrong passes would make of it: without its OpStore; with 3 for its constant 2; with its OpIMul and its OpStore swapped; and, of the two modules
-- whose array begins behind a word or has each second one, without the Offset and without the ArrayStride.
abbrev pub store_dropped : Code
store_dropped = code_of (take 136 doubling_words ++ drop 139 doubling_words)

abbrev pub constant_changed : Code
constant_changed = code_of (slice_set doubling_words 96 3)

abbrev pub body_swapped : Code
body_swapped = code_of (take 131 doubling_words ++ take 3 (drop 136 doubling_words) ++ take 5 (drop 131 doubling_words) ++ drop 139 doubling_words)

abbrev pub offset_dropped : Code
offset_dropped = code_of (take 45 doubling_words ++ drop 50 doubling_words)

abbrev pub stride_dropped : Code
stride_dropped = code_of (take 50 doubling_words ++ drop 54 doubling_words)

-- whose invocation i squares the two words of pair i; %22 is a vector of two words
abbrev pub squaring : Code
squaring = code_of (slice_set (
    take 50 doubling_words
    -- OpDecorate %5 ArrayStride 8
    ++ (0x0004_0047 ∷ 5 ∷ 6 ∷ 8 ∷ [])
    ++ take 17 (drop 54 doubling_words)
    -- %22 = OpTypeVector %8 2; %5 = OpTypeRuntimeArray %22
    ++ (0x0004_0017 ∷ 22 ∷ 8 ∷ 2 ∷ 0x0003_001D ∷ 5 ∷ 22 ∷ [])
    ++ take 7 (drop 74 doubling_words)
    -- %12 = OpTypePointer StorageBuffer %22
    ++ (0x0004_0020 ∷ 12 ∷ 12 ∷ 22 ∷ [])
    ++ take 42 (drop 85 doubling_words)
    -- %20 = OpLoad %22 %19; %21 = OpIMul %22 %20 %20
    ++ (0x0004_003D ∷ 22 ∷ 20 ∷ 19 ∷ 0x0005_0084 ∷ 22 ∷ 21 ∷ 20 ∷ 20 ∷ [])
    ++ drop 136 doubling_words) 3 23)

-- one workgroup of the entry point main on these words at set 0 and binding 0
abbrev pub on : List ℕ → Dispatch
on words = record {
  entry = codes "main";
  groups = record { x = 1; y = 1; z = 1 };
  specialisation = [];
  uniforms = [];
  push = [];
  buffers = record { set = 0; binding = 0; words = words } ∷ [];
}

abbrev pub buffer : List ℕ → List Bound
buffer words = record { set = 0; binding = 0; words = words } ∷ []
